-- `stepping::acceptance::is_new` meets its contract. Assumes nothing.
use Rattle.std.proofs.Common.{sym, ◌∙◌}
use Rattle.stepping.proofs.Scan.{inner_turn, inner_end}
use Rattle.stepping.proofs.acceptance.is_new.Goals as goal

pub loop-other-preserved : goal.loop-other-preserved
loop-other-preserved c = inner_turn _ _ _ _ c.loop-other-test.true ∙ c.loop-other.invariant

pub returns : goal.returns
returns c = sym (inner_end _ _ _ _ c.loop-other-test.false) ∙ c.loop-other.invariant
