-- The C form of a row. Assumes nothing.
use Rattle.channelfox.specs.Forms.{row_form}
use Rattle.channelfox.proofs.Mapped.{bit}
use Rattle.channelfox.proofs.forms.CRunRowFromRunRow.from.Goals as goal

pub returns : goal.returns
unfolding row_form
returns c = rw (c.kind_and_held-stored.ensures.kind, c.kind_and_held-stored.ensures.held, c.from.ensures, bit)
