-- `stepping::acceptance::holding` meets its contract: `ok` says whether the rows passed so far are in order, `ids` has their ids, and
-- `holding` says whether one of them is in its hold. Assumes nothing.
use Rattle.stepping.proofs.Checked.{UsedTo}
use Rattle.stepping.proofs.acceptance.holding.Given as goal

abbrev pub invariant-loop-i : goal.invariant-loop-i
invariant-loop-i l = UsedTo l.run l.ids l.ok l.holding l.i
