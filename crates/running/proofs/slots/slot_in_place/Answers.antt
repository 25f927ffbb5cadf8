-- `running::slots::slot_in_place` meets its contract. Assumes nothing.
use Rattle.std.proofs.Common.{sym, ◌∙◌}
use Rattle.rules.specs.Run.{stepped_of}
use Rattle.running.proofs.Stepped.{done_said, kept_said}
use Rattle.running.proofs.slots.slot_in_place.Goals as goal

pub returns-in-Ok-clause-run : goal.returns-in-Ok-clause-run
returns-in-Ok-clause-run c = (done_said (stepped_of c.args.run.now c.args.stolen).verdict _ _ (sym c.in-Ok.is ∙ c.slot.ensures)).0

pub returns-in-Ok-clause-told : goal.returns-in-Ok-clause-told
returns-in-Ok-clause-told c = (done_said (stepped_of c.args.run.now c.args.stolen).verdict _ _ (sym c.in-Ok.is ∙ c.slot.ensures)).1

pub returns-in-Err-clause-run : goal.returns-in-Err-clause-run
returns-in-Err-clause-run c = (kept_said (stepped_of c.args.run.now c.args.stolen).verdict _ _ (sym c.in-Err.is ∙ c.slot.ensures)).0

pub returns-in-Err-clause-told : goal.returns-in-Err-clause-told
returns-in-Err-clause-told c = (kept_said (stepped_of c.args.run.now c.args.stolen).verdict _ _ (sym c.in-Err.is ∙ c.slot.ensures)).1
