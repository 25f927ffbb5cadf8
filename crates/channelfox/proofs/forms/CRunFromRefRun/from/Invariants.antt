-- After each turn the rows before the place are made. Assumes nothing.
use Rattle.channelfox.specs.Forms.{row_form}
use Rattle.channelfox.proofs.Mapped.{Made}
use Rattle.channelfox.proofs.forms.CRunFromRefRun.from.Given as goal

abbrev pub invariant-loop-at : goal.invariant-loop-at
invariant-loop-at l = Made row_form l.row-items l.rows l.at
