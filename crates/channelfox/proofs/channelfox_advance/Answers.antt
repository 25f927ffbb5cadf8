-- `channelfox::channelfox_advance` meets its contract. Assumes nothing.
use Rattle.std.proofs.Common.{◌∙◌}
use Rattle.channelfox.proofs.Answered.{advance_taken, advance_kept}
use Rattle.channelfox.proofs.channelfox_advance.Goals as goal

pub returns-in-Ok : goal.returns-in-Ok
returns-in-Ok c = c.from.ensures ∙ rw c.advance.ensures (advance_taken c.args.run c.in-Ok.ensures c.args.stolen.now)

pub returns-in-Err : goal.returns-in-Err
returns-in-Err c = rw c.from-in-Err.ensures (advance_kept c.args.run c.in-Err.ensures c.args.stolen.now)
