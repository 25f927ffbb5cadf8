-- A row of what C hands in. Assumes nothing.
use Rattle.channelfox.specs.Forms.{row_of}
use Rattle.channelfox.proofs.forms.RunRowFromCRunRow.from.Goals as goal

pub returns : goal.returns
unfolding row_of
returns c = rw c.stored_of.ensures
