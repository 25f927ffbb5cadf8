-- `stepping::acceptance::distinct` meets its contract. Assumes nothing.
use Rattle.std.proofs.Common.{sym, ◌∙◌}
use Rattle.stepping.proofs.Scan.{behind, outer_turn, outer_end}
use Rattle.stepping.proofs.acceptance.distinct.Goals as goal

pub loop-i-preserved : goal.loop-i-preserved
loop-i-preserved c =
    rw (c.is_new-differ.ensures, behind c.args.ids.now c.loop-i.i)
    (outer_turn _ _ _ c.loop-i-test.true ∙ c.loop-i.invariant)

pub returns : goal.returns
returns c = sym (outer_end _ _ _ c.loop-i-test.false) ∙ c.loop-i.invariant
