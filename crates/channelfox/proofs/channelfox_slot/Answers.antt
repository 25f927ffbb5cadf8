-- `channelfox_slot` meets its contract. Assumes nothing.
use Rattle.std.proofs.Common.{◌∙◌}
use Rattle.channelfox.proofs.Answered.{slot_taken, slot_kept}
use Rattle.channelfox.proofs.channelfox_slot.Goals as goal

pub returns-in-Ok : goal.returns-in-Ok
returns-in-Ok c =
    let s = slot_taken c.args.run.now c.in-Ok.ensures c.args.stolen in
    (c.from.ensures ∙ rw c.slot_in_place-stepped.ensures.run s.0, c.from-in-Ok.ensures ∙ rw c.slot_in_place-stepped.ensures.told s.1)

pub returns-in-Err : goal.returns-in-Err
returns-in-Err c =
    let s = slot_kept c.args.run.now c.in-Err.ensures c.args.stolen in
    (s.0, rw c.from-in-Err.ensures s.1)
