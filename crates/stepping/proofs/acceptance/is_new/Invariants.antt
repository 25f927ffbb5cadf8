-- `stepping::acceptance::is_new` meets its contract: `new` says whether none of the ids before the index is this one. Assumes nothing.
use Rattle.std.proofs.Common.{◌≡◌, ◌&&◌, drop}
use Rattle.rules.specs.RunState.{not_in}
use Rattle.stepping.proofs.acceptance.is_new.Given as goal

abbrev pub invariant-loop-other : goal.invariant-loop-other
invariant-loop-other l = l.new && not_in l.id (drop l.other-index l.others) ≡ not_in l.id l.others
