-- What the thin copy of the second door makes of a lent list, whatever its length: the true length, and the first 64 rows.
-- Assumes nothing. The contract of the private function behind `read_rows` cites it; its own contract cites `door_of` of the rules.
use Rattle.std.specs.Prelude.{List, length, take}
use Rattle.rules.specs.declared.ObjectRow.{ObjectRow}
use Rattle.rules.specs.declared.Table.{Table}
use Rattle.rules.specs.StoredTable.{no_row, padded}

abbrev pub copied_of : List ObjectRow → Table
copied_of ys = record { count = length ys; rows = padded (length ys) no_row (take 64 ys) }
