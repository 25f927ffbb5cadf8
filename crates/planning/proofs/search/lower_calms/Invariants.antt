-- `search::lower_calms` meets its contract. Assumes nothing.
use Rattle.std.proofs.Common.{◌≡◌}
use Rattle.planning.proofs.Calms.{lowered}
use Rattle.planning.proofs.search.lower_calms.Given as goal

abbrev pub invariant-loop-at : goal.invariant-loop-at
invariant-loop-at l = l.ahead ≡ lowered l.fn.ahead l.period l.at
