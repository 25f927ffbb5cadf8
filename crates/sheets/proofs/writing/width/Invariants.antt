-- `sheets::writing::width` meets its contract: each turn takes one digit off. Assumes nothing.
use Rattle.std.proofs.Common.{◌≡◌, ◌+◌, length}
use Rattle.rules.specs.Sheet.{decimal}
use Rattle.sheets.proofs.writing.width.Given as goal

abbrev pub invariant-loop-y : goal.invariant-loop-y
invariant-loop-y l = l.digits + length (decimal l.y) ≡ 1 + length (decimal l.x)

abbrev pub decreases-loop-y : goal.decreases-loop-y
decreases-loop-y l = l.y
