-- `channelfox_convert` meets its contract. Assumes nothing.
use Rattle.std.proofs.Common.{◌∙◌, length}
use Rattle.channelfox.specs.Forms.{form_numbered}
use Rattle.channelfox.proofs.Answered.{converted_same}
use Rattle.channelfox.proofs.channelfox_convert.Goals as goal

pub returns : goal.returns
returns c =
    let a = c.args in
    let f = c.form_numbered.ensures in
    (c.convert.ensures.buffer ∙ rw f, c.from.ensures ∙ rw (c.convert.ensures.told, f) (converted_same (form_numbered a.from) a.bytes.now (length a.buffer.now)))
