-- `tables::converting::convert` meets its contract: where nothing is refused before, what was read is written in the other form. Assumes nothing.
use Rattle.std.proofs.Common.{◌≡◌, refl, sym, length}
use Rattle.rules.specs.Converting.{converted_from}
use Rattle.rules.proofs.Outcomes.{accepted}
use Rattle.tables.specs.Converted.{from_verdict}
use Rattle.tables.proofs.Converted.{told, left}
use Rattle.tables.proofs.Filling.{read_accepted}
use Rattle.tables.proofs.converting.convert.Goals as goal

pub returns-clause-buffer : goal.returns-clause-buffer
returns-clause-buffer c =
    let a = c.args in
    let s = a.bytes.now in
    let held = c.in_ok-stored.stored in
    let passed = accepted (from_verdict a.from s) tt _ (sym c.in_ok-check_from.ensures) in
    let read = read_accepted s held c.in_ok-stored.ensures in
    let same : record { form = c.other_form.result; table = held.table; firsts = held.firsts } ≡ converted_from a.from s = rw (c.other_form.ensures, read.1) refl in
    left a.from s passed read.0 same a.buffer.now c.write_stored.ensures.buffer

pub returns-clause-told : goal.returns-clause-told
returns-clause-told c =
    let a = c.args in
    let s = a.bytes.now in
    let held = c.in_ok-stored.stored in
    let passed = accepted (from_verdict a.from s) tt _ (sym c.in_ok-check_from.ensures) in
    let read = read_accepted s held c.in_ok-stored.ensures in
    let same : record { form = c.other_form.result; table = held.table; firsts = held.firsts } ≡ converted_from a.from s = rw (c.other_form.ensures, read.1) refl in
    told a.from s passed read.0 same (length a.buffer.now) c.write_stored.ensures.told
