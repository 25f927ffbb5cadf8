-- The C form of a run: each of its rows. Assumes nothing.
use Rattle.std.proofs.Common.{refl, rules}
use Rattle.channelfox.proofs.Mapped.{made_next, made_all}
use Rattle.channelfox.proofs.forms.CRunFromRefRun.from.Goals as goal

pub loop-at-init : goal.loop-at-init
loop-at-init c = record { long = search rules; room = refl; same = refl }

pub loop-at-preserved : goal.loop-at-preserved
loop-at-preserved c = rw c.from.ensures (made_next _ c.loop-at.invariant c.loop-at-test.true)

pub returns : goal.returns
returns c = rw (made_all c.loop-at.invariant c.loop-at-test.false)
