-- `sheets::writing::sheet_size` meets its contract: after each turn the lines of the rows before it are counted. Assumes nothing.
use Rattle.std.proofs.Common.{◌≡◌, ◌*◌, ◌≤◌, length, take}
use Rattle.rules.specs.Sheet.{sheet_bytes}
use Rattle.sheets.proofs.writing.sheet_size.Given as goal

abbrev pub invariant-loop-row : goal.invariant-loop-row
invariant-loop-row l = record { counted : l.size ≡ length (sheet_bytes (take l.row-index l.rows)); few : l.size ≤ 45 * l.row-index }
