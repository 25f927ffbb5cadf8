-- What writing a table puts: the rows have passed the checks, and their records and then the trailer are its bytes. Assumes nothing.
use Rattle.std.proofs.Common.{◌≡◌, refl, sym, ap, ◌∙◌, subst, ℕ, ◌+◌, ◌*◌, ◌≤◌, arith, Bool, true, false, cond, not, eqb, List, [], ◌∷◌, ◌++◌, length, take, Option, Some, None, unwrap_or, Ok}
use Rattle.std.specs.List.{position, position_from}
use Rattle.std.proofs.lemmas.Iterator.Adapters.{position_from-zero}
use Rattle.std.proofs.lemmas.List.{length-take-le}
use Rattle.std.proofs.lemmas.List.Edits.{sets}
use borrow.Author.Tests.{leb-true}
use lib.Dec.{leb}
use Rattle.rules.specs.declared.Form.{Form}
use Rattle.rules.specs.declared.Form.TheVariants.{One}
use Rattle.rules.specs.declared.ObjectRow.{ObjectRow}
use Rattle.rules.specs.declared.StoredTable.{StoredTable}
use Rattle.rules.specs.declared.Refusal.TheVariants.{WrongMark, BufferSmall, FirstUsed}
use Rattle.rules.specs.Answers.{Verdict, Accepted, Refused, outcome, written_outcome}
use Rattle.rules.specs.Refusals.{must, first_refusal}
use Rattle.rules.specs.StoredTable.{checks_from, record_size, table_size, is_form, rows_in, count_verdict, table_verdict}
use Rattle.rules.specs.Writing.{records_bytes, trailer_bytes, bytes_of, unused_from, unused_verdict, write_verdict, told_of, left_of, written_of, buffer_after}
use Rattle.rules.proofs.Checks.{few_rows, both_accept, test_passed}
use Rattle.rules.proofs.Bytes.{records_length, table_length}
use Rattle.rules.proofs.Put.{put_then, put_start}
use Rattle.rules.proofs.Outcomes.{given}
use Rattle.tables.proofs.Filling.{some_form}

-- ── Check 18 ──

-- what the first record with a first release other than 0 says
abbrev used_at : Option ℕ → Verdict
used_at None = Accepted
used_at (Some at) = Refused FirstUsed at

used_from : (at : ℕ) (firsts : List ℕ) → unused_from at firsts ≡ used_at (position_from (λ x. not (eqb x 0)) at firsts)
used_from at [] = refl
used_from at (x ∷ xs) = step (eqb x 0) (used_from (at + 1) xs)
  where
    step : (t : Bool) → unused_from (at + 1) xs ≡ used_at (position_from (λ x. not (eqb x 0)) (at + 1) xs)
        → first_refusal (must t FirstUsed at) (unused_from (at + 1) xs) ≡ used_at (cond (not t) (Some at) (position_from (λ x. not (eqb x 0)) (at + 1) xs))
    step true e = e
    step false e = refl

pub unused_told : (firsts : List ℕ) {at : Option ℕ} → at ≡ position (λ x. not (eqb x 0)) firsts → unused_from 0 firsts ≡ used_at at
unused_told firsts e = rw (e, position_from-zero (λ x. not (eqb x 0)) firsts) (used_from 0 firsts)

-- ── The checks passed ──

pub record Writable (stored : StoredTable) (size : ℕ) : Type 0 where
  pub form : stored.form ≡ Some (unwrap_or stored.form One)
  pub well_formed : table_verdict stored.table ≡ Accepted
  pub room : table_size stored.form stored.table.count ≤ size

pub writable : (stored : StoredTable) (size : ℕ) → write_verdict stored size ≡ Accepted → Writable stored size
writable stored size e =
    let form = test_passed (is_form stored.form) WrongMark 0 _ e in
    let table = both_accept (table_verdict stored.table) _ form.1 in
    let unused = both_accept (unused_verdict stored.form (take stored.table.count stored.firsts)) _ table.1 in
    let room = test_passed (leb (table_size stored.form stored.table.count) size) BufferSmall 0 _ unused.1 in
    record { form = some_form stored.form form.0; well_formed = table.0; room = leb-true (table_size stored.form stored.table.count) size room.0 }

-- ── The bytes ──

module _ (stored : StoredTable) (buffer : List ℕ) (form : Form) (passed : Ok form ≡ outcome (write_verdict stored (length buffer)) (unwrap_or stored.form One)) where
  verdict : write_verdict stored (length buffer) ≡ Accepted
  verdict = (given (write_verdict stored (length buffer)) (unwrap_or stored.form One) form passed).0

  fits : Writable stored (length buffer)
  fits = writable stored (length buffer) verdict

  pub form_is : stored.form ≡ Some form
  form_is = fits.form ∙ ap Some (sym (given (write_verdict stored (length buffer)) (unwrap_or stored.form One) form passed).1)

  pub few : stored.table.count ≤ 64
  few = few_rows stored.table fits.well_formed

  pub room : table_size (Some form) stored.table.count ≤ length buffer
  room = subst (λ (f : Option Form). table_size f stored.table.count ≤ length buffer) form_is fits.room

  pub checks : checks_from 0 [] (rows_in stored.table) ≡ Accepted
  checks = (both_accept (count_verdict stored.table.count) _ fits.well_formed).1

  abbrev rows : List ObjectRow
  rows = rows_in stored.table

  abbrev firsts : List ℕ
  firsts = take stored.table.count stored.firsts

  module _ (whole : length stored.table.rows ≡ 64) (at : ℕ) (at_is : at ≡ record_size (Some form) * stored.table.count) where
    rows_count : length rows ≡ stored.table.count
    rows_count = length-take-le stored.table.count stored.table.rows (omega (arith, few))

    size : 8 + at ≡ length (bytes_of stored)
    size = rw (table_length stored.form rows firsts, rows_count, form_is, at_is) refl

    pub told : Ok (8 + at) ≡ written_outcome (written_of stored (length buffer))
    told = ap Ok size ∙ sym (ap (λ (v : Verdict). written_outcome (told_of v (bytes_of stored))) verdict)

    pub left : (s : List ℕ) → s ≡ sets (sets buffer 0 (records_bytes (Some form) rows firsts)) at (trailer_bytes (Some form) stored.table.count) → s ≡ buffer_after stored buffer
    left s e =
        let behind : at ≡ 0 + length (records_bytes (Some form) rows firsts) = rw (records_length (Some form) rows firsts, rows_count) (omega arith) in
        let put : s ≡ sets buffer 0 (records_bytes (Some form) rows firsts ++ trailer_bytes (Some form) stored.table.count) =
        put_then 0 at (records_bytes (Some form) rows firsts) (trailer_bytes (Some form) stored.table.count) buffer behind refl e in
        let all : s ≡ sets buffer 0 (bytes_of stored) = rw (form_is, rows_count) put in
        all ∙ (put_start (bytes_of stored) buffer (omega (arith, size, room)) ∙ sym (ap (λ (v : Verdict). left_of v (bytes_of stored) buffer) verdict))
