-- `tables::copy_rows` meets its contract. Assumes nothing.
use Rattle.std.proofs.Common.{ap, length, List}
use Rattle.rules.specs.declared.ObjectRow.{ObjectRow}
use Rattle.rules.specs.declared.Table.{Table}
use Rattle.tables.proofs.Door.{copied}
use Rattle.tables.proofs.copy_rows.Goals as goal

abbrev with_rows : List ObjectRow → List ObjectRow → Table
with_rows ys rows = record { count = length ys; rows = rows }

pub returns : goal.returns
returns c = ap (with_rows c.args.list.now) (copied c.args.list.now c.copy_from_slice.new.self c.min-copied.result c.empty-rows.result c.min-copied.ensures c.copy_from_slice.ensures.after c.empty-rows.ensures)
