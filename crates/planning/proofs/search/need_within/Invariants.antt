-- `search::need_within` meets its contract: what the objects so far bring again is added up, and is not too large. Assumes nothing.
use Rattle.std.proofs.Common.{◌≡◌, ◌+◌, ◌*◌, ◌≤◌, take}
use Rattle.planning.specs.Paces.{need_again}
use Rattle.planning.proofs.search.need_within.Given as goal

abbrev pub invariant-loop-one : goal.invariant-loop-one
invariant-loop-one l =
    (l.need ≡ need_again (take l.one-index l.ahead) l.start l.t) × (l.need ≤ 1099511627776 + 4294967295000000 * l.one-index)
