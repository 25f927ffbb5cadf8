-- `tables::reading::firsts_from` meets its contract. Assumes nothing.
use Rattle.std.proofs.Common.{Some, arith}
use Rattle.rules.specs.StoredTable.{first_at}
use Rattle.tables.proofs.Filling.{fill_start, fill_long, fill_next, fill_end}
use Rattle.tables.proofs.reading.firsts_from.Goals as goal

pub loop-i-init : goal.loop-i-init
loop-i-init c = (omega arith, fill_start (first_at (Some c.args.records.form)) 0 c.args.bytes.now c.args.records c.requires.few)

pub loop-i-preserved : goal.loop-i-preserved
loop-i-preserved c =
    let long = fill_long (first_at (Some c.args.records.form)) 0 c.args.bytes.now c.args.records c.loop-i.i c.loop-i.invariant.1 in
    let next = fill_next (first_at (Some c.args.records.form)) 0 c.args.bytes.now c.args.records c.loop-i.i (omega (arith, long)) in
    (omega (arith, long), rw (c.first_at.ensures, c.place.ensures, c.loop-i.invariant.1) next)

pub returns : goal.returns
returns c =
    let long = fill_long (first_at (Some c.args.records.form)) 0 c.args.bytes.now c.args.records c.loop-i.i c.loop-i.invariant.1 in
    rw c.loop-i.invariant.1 (fill_end (first_at (Some c.args.records.form)) 0 c.args.bytes.now c.args.records c.loop-i.i (omega (arith, long)))
