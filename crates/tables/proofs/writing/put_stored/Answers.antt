-- `tables::writing::put_stored` meets its contract: all is put. Assumes nothing.
use Rattle.std.proofs.Common.{◌≡◌, rules, length}
use Rattle.tables.proofs.Wrote.{told, left}
use Rattle.tables.proofs.writing.put_stored.Goals as goal

pub returns-clause-buffer : goal.returns-clause-buffer
returns-clause-buffer c =
    let whole : length c.args.stored.table.rows ≡ 64 = search rules in
    let at = c.records_size-records in
    left c.args.stored c.args.buffer.now c.args.form c.requires.passed whole at.result at.ensures.size c.put_trailer.new.buffer (rw (c.put_records.ensures, c.used.ensures) at c.put_trailer.ensures)

pub returns-clause-told : goal.returns-clause-told
returns-clause-told c =
    let whole : length c.args.stored.table.rows ≡ 64 = search rules in
    let at = c.records_size-records in
    told c.args.stored c.args.buffer.now c.args.form c.requires.passed whole at.result at.ensures.size
