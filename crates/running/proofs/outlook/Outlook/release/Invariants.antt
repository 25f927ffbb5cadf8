-- `running::outlook::Outlook::release` meets its contract: the rows before `i` are released. Assumes nothing.
use Rattle.running.proofs.Going.{Releasing}
use Rattle.running.proofs.outlook.Outlook.release.Given as goal

abbrev pub invariant-release : goal.invariant-release
invariant-release l = Releasing l.ahead.clock l.ahead.count l.initial.rows l.releases l.rows l.lapses l.due l.lapse l.ahead.holding l.first l.i
