-- `sheets::writing::put_sheet` meets its contract: after each turn the lines of the rows before it stand. Assumes nothing.
use Rattle.std.proofs.Common.{◌≡◌, length, take}
use Rattle.std.proofs.lemmas.List.Edits.{sets}
use Rattle.rules.specs.Sheet.{sheet_bytes}
use Rattle.sheets.proofs.writing.put_sheet.Given as goal

abbrev pub invariant-loop-row : goal.invariant-loop-row
invariant-loop-row l =
    record { behind : l.at ≡ length (sheet_bytes (take l.row-index l.rows)); lines : l.buffer ≡ sets l.initial.buffer 0 (sheet_bytes (take l.row-index l.rows)) }
