-- `sheets::writing::put_sheet` meets its contract: one line more. Assumes nothing.
use Rattle.std.proofs.Common.{◌≡◌, ◌∙◌, ◌+◌, arith, length, take, get_or, take_all}
use Rattle.rules.specs.StoredTable.{no_row}
use Rattle.rules.specs.Sheet.{line_bytes, sheet_bytes}
use Rattle.rules.proofs.Put.{put_then, put_start}
use Rattle.sheets.proofs.Printed.{sheet_next, sheet_longer, sheet_up_to}
use Rattle.sheets.proofs.writing.put_sheet.Goals as goal

pub put_line-at-requires : goal.put_line-at-requires
put_line-at-requires c =
    let rows = c.args.rows.now in
    let l = c.loop-row in
    let i = l.row-index in
    let h = c.loop-row-test.true in
    omega (arith, l.auto.buffer, l.invariant.behind, sheet_longer rows i h, sheet_up_to rows (i + 1), c.requires)

pub loop-row-preserved : goal.loop-row-preserved
loop-row-preserved c =
    let rows = c.args.rows.now in
    let l = c.loop-row in
    let i = l.row-index in
    let h = c.loop-row-test.true in
    let put = c.put_line-at.ensures in
    let behind : l.at ≡ 0 + length (sheet_bytes (take i rows)) = omega (arith, l.invariant.behind) in
    let lines = put_then 0 l.at (sheet_bytes (take i rows)) (line_bytes (get_or rows i no_row)) c.args.buffer.now behind l.invariant.lines put.bytes in
    record { behind = omega (arith, l.invariant.behind, put.behind, sheet_longer rows i h); lines = rw (sheet_next rows i h) lines }

pub returns : goal.returns
returns c =
    let rows = c.args.rows.now in
    let all : take c.loop-row.row-index rows ≡ rows = take_all c.loop-row.row-index rows (omega arith) in
    rw all at c.loop-row.invariant.lines ∙ put_start (sheet_bytes rows) c.args.buffer.now c.requires
