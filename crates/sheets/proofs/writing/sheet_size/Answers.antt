-- `sheets::writing::sheet_size` meets its contract: one line more. Assumes nothing.
use Rattle.std.proofs.Common.{arith}
use Rattle.sheets.proofs.Printed.{sheet_longer}
use Rattle.sheets.proofs.writing.sheet_size.Goals as goal

pub loop-row-preserved : goal.loop-row-preserved
loop-row-preserved c =
    let l = c.loop-row in
    record {
      counted = omega (arith, c.line_size-size.ensures.bytes, l.invariant.counted, sheet_longer c.args.rows.now l.row-index c.loop-row-test.true);
      few = omega (arith, c.line_size-size.ensures.few, l.invariant.few);
    }
