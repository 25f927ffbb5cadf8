-- `tables::reading::read` meets its contract: what is checked is the table of the records that the trailer points at. Assumes nothing.
use Rattle.std.proofs.Common.{sym, ◌∙◌, ap, Ok}
use Rattle.std.proofs.lemmas.Result.{err_from_is_err_and}
use Rattle.rules.proofs.Outcomes.{accepted, refused}
use Rattle.tables.proofs.Filling.{read_table, read_stored, read_told}
use Rattle.tables.proofs.reading.read.Goals as goal

pub returns-in_err-check_table : goal.returns-in_err-check_table
returns-in_err-check_table c =
    let s = c.args.bytes.now in
    let p = err_from_is_err_and c.from_residual-in_err-check_table.result c.from_residual-in_err-check_table.ensures.1 in
    let table = read_table s c.in_ok-records.records c.in_ok-records.ensures c.rows_from.result c.rows_from.ensures in
    rw (p.1, p.2) (sym (read_told s (sym table ∙ refused _ tt _ (sym c.in_err-check_table.ensures))))

pub returns : goal.returns
returns c =
    let s = c.args.bytes.now in
    let records = c.in_ok-records in
    let table = read_table s records.records records.ensures c.rows_from.result c.rows_from.ensures in
    let stored = read_stored s records.records records.ensures c.rows_from.result c.rows_from.ensures c.firsts_from.result c.firsts_from.ensures in
    ap Ok stored ∙ sym (read_told s (sym table ∙ accepted _ tt _ (sym c.in_ok-check_table.ensures)))
