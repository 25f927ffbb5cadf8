-- `running::outlook::Outlook::age` meets its contract: the rows before `i` are aged. Assumes nothing.
use Rattle.running.proofs.Going.{Aging}
use Rattle.running.proofs.outlook.Outlook.age.Given as goal

abbrev pub invariant-age : goal.invariant-age
invariant-age l = Aging l.ahead.clock l.ahead.count l.initial.rows l.ahead.due l.ahead.holding l.ahead.first l.looked l.rows l.lapses l.lapse l.i
