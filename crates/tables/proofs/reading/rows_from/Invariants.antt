-- `tables::reading::rows_from` meets its contract: after i turns the first i records are in. Assumes nothing.
use Rattle.std.proofs.Common.{◌≡◌, ◌≤◌}
use Rattle.rules.specs.StoredTable.{no_row, row_of}
use Rattle.tables.proofs.Filling.{filling}
use Rattle.tables.proofs.reading.rows_from.Given as goal

abbrev pub invariant-loop-i : goal.invariant-loop-i
invariant-loop-i l = (l.i ≤ l.records.count) × (l.row-items ≡ filling row_of no_row l.bytes l.records l.i)
