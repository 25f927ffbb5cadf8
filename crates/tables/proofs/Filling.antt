-- Records one after the other: where they lie, the arrays that they fill, the checks on them, and the answer. Assumes nothing.
use Rattle.std.proofs.Common.{◌≡◌, refl, sym, ap, ◌∙◌, ℕ, ◌+◌, ◌-◌, ◌*◌, ◌≤◌, ◌<◌, add-one, arith, true, List, [], ◌++◌, length, set, take, drop, replicate, Option, Some, None, unwrap_or, Ok, Err}
use Rattle.std.proofs.Math.Nat.{mul-suc, mul-le-mul_left}
use Rattle.std.proofs.lemmas.Bool.{true≢false}
use Rattle.std.proofs.lemmas.List.{take_at, length-append, length-replicate, take-replicate, drop-replicate, append-nil}
use Rattle.rules.proofs.Outcomes.{given, refused}
use Rattle.rules.specs.declared.Form.{Form}
use Rattle.rules.specs.declared.Form.TheVariants.{One}
use Rattle.rules.specs.declared.ObjectRow.{ObjectRow}
use Rattle.rules.specs.declared.Refused as at_place
use Rattle.rules.specs.declared.StoredTable.{StoredTable}
use Rattle.rules.specs.Answers.{Verdict, Accepted, Refused, outcome, stored_outcome}
use Rattle.rules.specs.Refusals.{first_refusal}
use Rattle.rules.specs.StoredTable.{no_row, padded, is_form, record_size, records_of, row_of, first_at, form_of, count_of, stored_rows, stored_firsts, checks_from, table_verdict, trailer_verdict, stored_of, read_verdict, read_answer, read_of}
use Rattle.rules.proofs.Bytes.{records_count}
use Rattle.rules.proofs.Checks.{count_in}
use Rattle.rules.proofs.Lists.{fill_one}
use Rattle.rules.proofs.Trailer.{readable}
use Rattle.tables.specs.declared.trailer.Records.{Records}
use Rattle.tables.specs.Records.{marked_form, records_in, AreWithin, filled}

-- record i of n lies before the end of the last
pub record_before : (size i n : ℕ) → i < n → size * i + size ≤ size * n
record_before size i n h = let e : size * (i + 1) ≤ size * n = mul-le-mul_left size (omega arith) in omega (arith, rw (add-one i, mul-suc size i) at e)

-- as many places as there are records, with a thing of each of the first n, and z after them
module _ {A : Type 0} (f : List ℕ → ℕ → A) (z : A) (s : List ℕ) (records : Records) where
  abbrev front : ℕ → List A
  front n = records_of f (record_size (Some records.form)) s records.start n

  abbrev pub filling : ℕ → List A
  filling n = front n ++ replicate (records.count - n) z

  pub fill_start : records.count ≤ 64 → take records.count (replicate 64 z) ≡ filling 0
  fill_start few = let none : records.count - 0 ≡ records.count = omega arith in rw none (take-replicate records.count 64 z few)

  many : (n : ℕ) → length (front n) ≡ n
  many n = records_count f (record_size (Some records.form)) s records.start n

  -- so many places, as long as no record beyond the last is put
  pub fill_long : (n : ℕ) {ys : List A} → ys ≡ filling n → length ys ≡ n + (records.count - n)
  fill_long n e = rw e (simp (length-append, length-replicate, many n))

  pub fill_next : (n : ℕ) → n < records.count → set (filling n) n (f s (records.start + record_size (Some records.form) * n)) ≡ filling (n + 1)
  fill_next n h =
      let v = f s (records.start + record_size (Some records.form) * n) in
      rw (add-one n) (rw (add-one n) at (fill_one z (front n) records.count n v (sym (many n)) h))

  -- all of them, in an array of 64
  pub fill_end : (n : ℕ) → n ≡ records.count → filling n ++ drop records.count (replicate 64 z) ≡ filled f z s records
  fill_end n e =
      let none : records.count - records.count ≡ 0 = omega arith in
      rw (e, none, append-nil (front records.count), drop-replicate records.count 64 z) refl

-- ── The trailer that passes ──

pub some_form : (form : Option Form) → is_form form ≡ true → form ≡ Some (unwrap_or form One)
some_form None e = absurd (true≢false (sym e))
some_form (Some form) e = refl

module _ (s : List ℕ) (t : trailer_verdict s ≡ Accepted) where
  pub marked : form_of s ≡ Some (marked_form s)
  marked = some_form (form_of s) (readable s t).form

  pub within : AreWithin (records_in s) (length s)
  within = let k = readable s t in record { few = k.few; inside = rw (← marked) (omega (arith, k.room, k.within)) }

  -- the table and the first releases that the records fill
  pub rows_are : filled row_of no_row s (records_in s) ≡ padded (count_of s) no_row (stored_rows s)
  rows_are = rw (← marked) refl

  pub firsts_are : filled (first_at (Some (marked_form s))) 0 s (records_in s) ≡ padded (count_of s) 0 (stored_firsts s)
  firsts_are = rw (← marked) refl

  long : length (stored_rows s) ≡ count_of s
  long = records_count row_of (record_size (form_of s)) s _ (count_of s)

  -- the checks on that table are those on the records
  pub verdict_is : table_verdict (record { count = count_of s; rows = filled row_of no_row s (records_in s) }) ≡ read_verdict s
  verdict_is =
      let k = readable s t in
      let rows : table_verdict (record { count = count_of s; rows = filled row_of no_row s (records_in s) }) ≡ checks_from 0 [] (stored_rows s) =
      rw (rows_are, count_in (count_of s) k.some k.few, take_at (stored_rows s) (replicate (64 - count_of s) no_row) (count_of s) long) refl in
      rows ∙ sym (ap (λ (v : Verdict). first_refusal v (checks_from 0 [] (stored_rows s))) t)

  pub stored_is : record { form = Some (marked_form s); table = record { count = count_of s; rows = filled row_of no_row s (records_in s) }; firsts = filled (first_at (Some (marked_form s))) 0 s (records_in s) } ≡ stored_of s
  stored_is = rw (rows_are, firsts_are, ← marked, long) refl

-- ── The answer ──

answer_is : (v : Verdict) (stored : StoredTable) → stored_outcome (read_answer v stored) ≡ outcome v stored
answer_is Accepted stored = refl
answer_is (Refused r k) stored = refl

pub read_told : (s : List ℕ) {v : Verdict} → read_verdict s ≡ v → stored_outcome (read_of s) ≡ outcome v (stored_of s)
read_told s e = answer_is (read_verdict s) (stored_of s) ∙ ap (λ (v : Verdict). outcome v (stored_of s)) e

pub read_accepted : (s : List ℕ) (stored : StoredTable) → Ok stored ≡ stored_outcome (read_of s) → (read_verdict s ≡ Accepted) × (stored ≡ stored_of s)
read_accepted s stored e = given (read_verdict s) (stored_of s) stored (e ∙ read_told s refl)

pub read_refused : (s : List ℕ) (e : at_place.Refused) → Err e ≡ stored_outcome (read_of s) → read_verdict s ≡ Refused e.refusal e.place
read_refused s e h = refused (read_verdict s) (stored_of s) e (sym (h ∙ read_told s refl))

-- from the records that the trailer points at, and the arrays that they fill
module _ (s : List ℕ) (records : Records) (e : Ok records ≡ outcome (trailer_verdict s) (records_in s)) (rows : List ObjectRow) (er : rows ≡ filled row_of no_row s records) where
  read_records : (trailer_verdict s ≡ Accepted) × (records ≡ records_in s)
  read_records = given (trailer_verdict s) (records_in s) records e

  pub read_table : table_verdict (record { count = records.count; rows = rows }) ≡ read_verdict s
  read_table = rw (er, read_records.1) (verdict_is s read_records.0)

  pub read_stored : (firsts : List ℕ) → firsts ≡ filled (first_at (Some records.form)) 0 s records → record { form = Some records.form; table = record { count = records.count; rows = rows }; firsts = firsts } ≡ stored_of s
  read_stored firsts ef = rw (er, ef, read_records.1) (stored_is s read_records.0)
