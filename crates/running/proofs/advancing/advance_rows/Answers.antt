-- `running::advancing::advance_rows` meets its contract: between slots `Going` holds. Assumes nothing.
use Rattle.std.proofs.Common.{refl}
use Rattle.running.proofs.SlotBySlot.{going_on, slots_end}
use Rattle.running.proofs.advancing.advance_rows.Goals as goal

pub slots-init : goal.slots-init
slots-init c = record { between = c.new-ahead.ensures.kept; on = rw (c.new-ahead.ensures.same.0, c.new-ahead.ensures.same.1) refl }

pub release-requires : goal.release-requires
release-requires c = c.slots.invariant.between

pub slots-preserved : goal.slots-preserved
slots-preserved c =
    going_on c.release.new.self c.serve.new.self c.slots.invariant c.slots-test.true c.release.ensures.rows c.release.ensures.same c.serve.ensures.rows c.serve.ensures.same c.age.ensures.rows c.age.ensures.same c.age.ensures.kept

pub returns : goal.returns
returns c = slots_end _ _ _ _ c.slots-test.false c.slots.invariant.on
