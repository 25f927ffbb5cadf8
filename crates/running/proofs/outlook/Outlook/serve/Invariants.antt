-- `running::outlook::Outlook::serve` meets its contract: a row before `seek` is still to get the slot. Assumes nothing.
use Rattle.std.proofs.Common.{◌-◌}
use Rattle.running.proofs.Going.{Serving}
use Rattle.running.proofs.outlook.Outlook.serve.Given as goal

abbrev pub invariant-serve : goal.invariant-serve
invariant-serve l = Serving l.ahead.clock l.ahead.count l.initial.seek l.ahead.holding l.initial.rows l.rows l.lapses l.ahead.due l.lapse l.holding l.first l.seek

abbrev pub decreases-serve : goal.decreases-serve
decreases-serve l = l.seek - l.first
