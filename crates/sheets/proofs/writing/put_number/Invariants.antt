-- `sheets::writing::put_number` meets its contract: each turn puts the last digit that is left. Assumes nothing.
use Rattle.sheets.proofs.Printed.{Putting}
use Rattle.sheets.proofs.writing.put_number.Given as goal

abbrev pub invariant-loop-y : goal.invariant-loop-y
invariant-loop-y l = Putting l.initial.buffer l.at l.x l.buffer l.y l.last

abbrev pub decreases-loop-y : goal.decreases-loop-y
decreases-loop-y l = l.y
