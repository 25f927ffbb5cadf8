-- `tables::reading::rows_from` meets its contract. Assumes nothing.
use Rattle.std.proofs.Common.{arith}
use Rattle.rules.specs.StoredTable.{no_row, row_of}
use Rattle.tables.proofs.Filling.{fill_start, fill_long, fill_next, fill_end}
use Rattle.tables.proofs.reading.rows_from.Goals as goal

pub loop-i-init : goal.loop-i-init
loop-i-init c = (omega arith, rw c.empty-rows.ensures (fill_start row_of no_row c.args.bytes.now c.args.records c.requires.few))

pub loop-i-preserved : goal.loop-i-preserved
loop-i-preserved c =
    let long = fill_long row_of no_row c.args.bytes.now c.args.records c.loop-i.i c.loop-i.invariant.1 in
    let next = fill_next row_of no_row c.args.bytes.now c.args.records c.loop-i.i (omega (arith, long)) in
    (omega (arith, long), rw (c.row_at.ensures, c.place.ensures, c.loop-i.invariant.1) next)

pub returns : goal.returns
returns c =
    let long = fill_long row_of no_row c.args.bytes.now c.args.records c.loop-i.i c.loop-i.invariant.1 in
    rw (c.loop-i.invariant.1, c.empty-rows.ensures) (fill_end row_of no_row c.args.bytes.now c.args.records c.loop-i.i (omega (arith, long)))
