-- `search::search` meets its contract: each round goes up, and passes over no number that balances. Assumes nothing.
use Rattle.std.proofs.Common.{◌+◌, ◌-◌, ◌≤◌, length}
use Rattle.rules.proofs.Balance.{Passed}
use Rattle.planning.specs.Paces.{need_again}
use Rattle.planning.proofs.search.search.Given as goal

abbrev pub invariant-loop-t : goal.invariant-loop-t
invariant-loop-t l = (1 ≤ l.t) × Passed (need_again l.ahead l.start) l.t × (l.start ≤ l.t) × (l.far ≤ length l.ahead)

abbrev pub decreases-loop-t : goal.decreases-loop-t
decreases-loop-t l = l.bound + 1 - l.t
