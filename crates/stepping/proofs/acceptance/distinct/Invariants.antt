-- `stepping::acceptance::distinct` meets its contract: `differ` says whether the ids before the index differ from all behind them.
-- Assumes nothing.
use Rattle.std.proofs.Common.{◌≡◌, ◌&&◌, drop}
use Rattle.rules.specs.RunState.{distinct}
use Rattle.stepping.proofs.acceptance.distinct.Given as goal

abbrev pub invariant-loop-i : goal.invariant-loop-i
invariant-loop-i l = l.differ && distinct (drop l.i l.ids) ≡ distinct l.ids
