-- `tables::writing::put_records` meets its contract: after some turns as many records are put. Assumes nothing.
use Rattle.std.proofs.Common.{◌≡◌, ◌+◌, ◌*◌, ◌≤◌, arith, length, take, get_or, Some, []}
use Rattle.std.specs.List.{zip}
use Rattle.std.proofs.lemmas.Iterator.Consumers.{YieldsList-turn, YieldsList-end}
use Rattle.std.proofs.lemmas.List.{length-take-le, take_all, length_push}
use Rattle.std.proofs.lemmas.List.FromFn.{length-enumerate_from}
use Rattle.std.proofs.lemmas.Slice.Zip.{length-zip}
use Rattle.rules.specs.StoredTable.{no_row}
use Rattle.rules.specs.Writing.{record_bytes, records_bytes}
use Rattle.rules.proofs.Bytes.{records_length, records_next}
use Rattle.rules.proofs.Checks.{Ranged, all_ranged}
use Rattle.rules.proofs.Lists.{every_at}
use Rattle.rules.proofs.Put.{put_then}
use Rattle.tables.proofs.Filling.{record_before}
use Rattle.tables.proofs.Paired.{in_turn, turn}
use Rattle.tables.proofs.writing.put_records.Goals as goal

pub overflow_mul-size : goal.overflow_mul-size
overflow_mul-size c =
    let a = c.args in
    let l = c.loop-i in
    let rows = a.rows.now in
    let z = c.record_size-size.result in
    let n = length l.yielded in
    let s = c.in-Some in
    let t = turn rows a.firsts.now n s.i s.row.now s.first.now (YieldsList-turn (in_turn rows a.firsts.now (cc) (cc) (cc)) l.yielded l.i-iterator l.yielded_by _ c.next.new.self (s.i, (s.row, s.first)) s.is c.next.ensures.steps) in
    let all : z * length rows ≤ length a.buffer.now = rw c.record_size-size.ensures c.requires.room in
    rw t.at (omega (arith, record_before z n (length rows) t.in_rows))

pub put_record-requires : goal.put_record-requires
put_record-requires c =
    let a = c.args in
    let l = c.loop-i in
    let rows = a.rows.now in
    let z = c.record_size-size.result in
    let n = length l.yielded in
    let s = c.in-Some in
    let t = turn rows a.firsts.now n s.i s.row.now s.first.now (YieldsList-turn (in_turn rows a.firsts.now (cc) (cc) (cc)) l.yielded l.i-iterator l.yielded_by _ c.next.new.self (s.i, (s.row, s.first)) s.is c.next.ensures.steps) in
    let all : z * length rows ≤ length a.buffer.now = rw c.record_size-size.ensures c.requires.room in
    let r : Ranged (get_or rows n no_row) = every_at Ranged no_row rows (all_ranged 0 [] rows c.requires.well_formed) n t.in_rows in
    rw (t.at, t.row_is) (omega (arith, l.auto.buffer, c.record_size-size.ensures, record_before z n (length rows) t.in_rows), r.hold_from, r.hold_to)

pub loop-i-preserved : goal.loop-i-preserved
loop-i-preserved c =
    let a = c.args in
    let l = c.loop-i in
    let rows = a.rows.now in
    let firsts = a.firsts.now in
    let z = c.record_size-size.result in
    let n = length l.yielded in
    let s = c.in-Some in
    let t = turn rows firsts n s.i s.row.now s.first.now (YieldsList-turn (in_turn rows firsts (cc) (cc) (cc)) l.yielded l.i-iterator l.yielded_by _ c.next.new.self (s.i, (s.row, s.first)) s.is c.next.ensures.steps) in
    let put = records_bytes (Some a.form) (take n rows) (take n firsts) in
    let e : z * n ≡ 0 + length put = rw (records_length (Some a.form) (take n rows) (take n firsts), length-take-le n rows (omega (arith, t.in_rows)), c.record_size-size.ensures) (omega arith) in
    let here = rw (t.at, t.row_is, t.first_is) at c.put_record.ensures in
    rw (length_push l.yielded (s.i, (s.row, s.first)), records_next (Some a.form) rows firsts n t.in_rows t.in_firsts) (put_then 0 (z * n) put (record_bytes (Some a.form) (get_or rows n no_row) (get_or firsts n 0)) a.buffer.now e l.invariant here)

pub returns : goal.returns
returns c =
    let a = c.args in
    let l = c.loop-i in
    let rows = a.rows.now in
    let firsts = a.firsts.now in
    let t = YieldsList-end (in_turn rows firsts (cc) (cc) (cc)) l.yielded l.i-iterator l.yielded_by _ c.next.new.self c.in-None.is c.next.ensures.steps in
    let e : length l.yielded ≡ length rows = omega (arith, t.1, length-enumerate_from 0 (zip rows firsts), length-zip rows firsts, c.requires.paired) in
    rw (e, take_all (length rows) rows (omega arith), take_all (length rows) firsts (omega (arith, c.requires.paired))) at l.invariant
