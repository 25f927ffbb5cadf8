-- `running::starting::start_planned` meets its contract: the first releases before `i` are in order, and their rows are made.
-- Assumes nothing.
use Rattle.running.proofs.Firsts.{Starts}
use Rattle.running.proofs.starting.start_planned.Given as goal

abbrev pub invariant-loop-i : goal.invariant-loop-i
invariant-loop-i l = Starts l.clock l.plans l.firsts l.rows l.i
