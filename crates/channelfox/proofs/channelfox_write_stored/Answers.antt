-- `channelfox_write_stored` meets its contract. Assumes nothing.
use Rattle.std.proofs.Common.{◌∙◌, length}
use Rattle.channelfox.specs.Forms.{stored_table}
use Rattle.channelfox.proofs.Answered.{written_same}
use Rattle.channelfox.proofs.channelfox_write_stored.Goals as goal

pub returns : goal.returns
returns c =
    let a = c.args in
    let s = c.from.ensures in
    (c.write_stored.ensures.buffer ∙ rw s, c.from-2.ensures ∙ rw (c.write_stored.ensures.told, s) (written_same (stored_table a.stored) (length a.buffer.now)))
