-- Request 7's conversions: what they hand over is what was read before, in the other form, and back and forth gives the same bytes.
-- Assumes nothing but what each statement says. Bytes are lists of numbers below 256.
use Rattle.std.specs.Prelude.{ℕ, ◌≤◌, ◌<◌, ◌≡◌, refl, true, List, length, take, Option, Some, None}
use Rattle.std.proofs.Common.{sym, ap, ap₂, ◌∙◌, arith, length-append}
use Rattle.std.proofs.lemmas.List.{length-replicate}
use Rattle.std.proofs.Math.Seq.{take-append_seam}
use Rattle.rules.specs.declared.Form.{Form}
use Rattle.rules.specs.declared.Form.TheVariants.{One, Two}
use Rattle.rules.specs.declared.StoredTable.{StoredTable}
use Rattle.rules.specs.declared.Refusal.TheVariants.{WrongMark}
use Rattle.rules.specs.Answers.{Accepted}
use Rattle.rules.specs.StoredTable.{no_row, padded, count_of, record_size, table_size, form_of, is_form, records_start}
use Rattle.rules.specs.StoredTable.{stored_rows, stored_firsts, stored_of, size_verdict, read_verdict, read_of}
use Rattle.rules.specs.Writing.{bytes_of, unused_verdict, write_verdict}
use Rattle.rules.specs.Converting.{other_form, same_form, converted_from, convert_verdict, converted_of, converted_after}
use Rattle.rules.proofs.Lists.{Every}
use Rattle.rules.proofs.Checks.{both_accept, test_passed}
use Rattle.rules.proofs.Trailer.{size_in}
use Rattle.rules.proofs.ReadBytes.{known, rows_count, firsts_count, rows_in_law, firsts_in}
use Rattle.promises.specs.RoundTrip.{zero_unused, firsts_placed, writes}
use Rattle.promises.specs.RoundTrip.{writes_again, same_bytes, used_of, bytes_hold}

-- ── The two forms ──

same_form_law : (f g : Option Form) → same_form f g ≡ true → f ≡ g
same_form_law None g e = let z : ◌≡◌ {A = ℕ} 0 1 = cc in absurd (omega arith)
same_form_law (Some One) None e = let z : ◌≡◌ {A = ℕ} 0 1 = cc in absurd (omega arith)
same_form_law (Some One) (Some One) e = refl
same_form_law (Some One) (Some Two) e = let z : ◌≡◌ {A = ℕ} 0 1 = cc in absurd (omega arith)
same_form_law (Some Two) None e = let z : ◌≡◌ {A = ℕ} 0 1 = cc in absurd (omega arith)
same_form_law (Some Two) (Some One) e = let z : ◌≡◌ {A = ℕ} 0 1 = cc in absurd (omega arith)
same_form_law (Some Two) (Some Two) e = refl

itself : (f : Option Form) → is_form f ≡ true → same_form f f ≡ true
itself None e = e
itself (Some One) e = refl
itself (Some Two) e = refl

other_is_form : (f : Option Form) → is_form f ≡ true → is_form (other_form f) ≡ true
other_is_form None e = e
other_is_form (Some One) e = refl
other_is_form (Some Two) e = refl

other_twice : (f : Option Form) → other_form (other_form f) ≡ f
other_twice None = refl
other_twice (Some One) = refl
other_twice (Some Two) = refl

-- either form has a place for first releases of 0
none_used : (f : Option Form) (xs : List ℕ) → Every (λ x. x ≡ 0) xs → unused_verdict f xs ≡ Accepted
none_used None xs z = refl
none_used (Some One) xs z = zero_unused 0 xs z
none_used (Some Two) xs z = refl

-- ── What was read, in either form ──

padded_length : {A : Type 0} (n : ℕ) (z : A) (xs : List A) → length xs ≡ n → n ≤ 64 → length (padded n z xs) ≡ 64
padded_length n z xs e h = simp (length-append, length-replicate) (omega arith)

module _ (s : List ℕ) (reads : read_verdict s ≡ Accepted) (form : Option Form) where
  abbrev in_form : StoredTable
  in_form = record { form = form; table = (stored_of s).table; firsts = (stored_of s).firsts }

  -- it is used whole
  used_whole : used_of in_form ≡ in_form
  used_whole = rw (rows_in_law s reads, firsts_in s reads, rows_count s reads)

  -- its bytes in a form hold it in that form
  bytes_held : (size : ℕ) → write_verdict in_form size ≡ Accepted
      → (stored_of (bytes_of in_form) ≡ in_form) × (read_verdict (bytes_of in_form) ≡ Accepted)
  bytes_held size good =
      let n = rows_count s reads in
      let rows-64 = padded_length (length (stored_rows s)) no_row (stored_rows s) refl (omega (arith, n, (known s reads).few)) in
      let firsts-64 = padded_length (count_of s) 0 (stored_firsts s) (firsts_count s reads) (known s reads).few in
      let held = bytes_hold in_form size rows-64 firsts-64 good in
      (held.0 ∙ used_whole, held.1)

-- a conversion is accepted where the bytes read, in the form converted from, and may be written in the other
converts : (from : Option Form) (s : List ℕ) (size : ℕ) → form_of s ≡ from → read_verdict s ≡ Accepted
    → write_verdict (converted_from from s) size ≡ Accepted → convert_verdict from s size ≡ Accepted
converts from s size e reads good =
    let k = known s reads in
    let same : same_form from (form_of s) ≡ true = rw e (itself from (rw e at k.form)) in
    rw (reads, size_in s k.long k.short, same, good)

-- ── The promises ──

-- what a conversion hands over: as many bytes of the buffer as it tells
abbrev pub handed_over : Option Form → List ℕ → List ℕ → List ℕ
handed_over from s buffer = take (converted_of from s (length buffer)).size (converted_after from s buffer)

handed_bytes : (from : Option Form) (s buffer : List ℕ) → convert_verdict from s (length buffer) ≡ Accepted
    → handed_over from s buffer ≡ bytes_of (converted_from from s)
handed_bytes from s buffer good = rw good (take-append_seam (bytes_of (converted_from from s)) _)

-- what it hands over reads as the same rows and the same first releases in the same order, in the other form
pub converted_reads : (from : Option Form) (s buffer : List ℕ) → convert_verdict from s (length buffer) ≡ Accepted
    → let read = (read_of s).stored in
    read_of (handed_over from s buffer)
    ≡ record { verdict = Accepted; stored = record { form = other_form from; table = read.table; firsts = read.firsts } }
converted_reads from s buffer good =
    let sized = both_accept (size_verdict s) _ good in
    let formed = test_passed (same_form from (form_of s)) WrongMark 0 _ sized.1 in
    let read = both_accept (read_verdict s) _ formed.1 in
    let written = both_accept (write_verdict (converted_from from s) (length buffer)) _ read.1 in
    let held = bytes_held s read.0 (other_form from) (length buffer) written.0 in
    rw (handed_bytes from s buffer good, held.0, held.1, read.0)

-- a table that reads, without unread bytes and with first releases of 0, converted to the other form and back gives the same bytes
pub there_and_back : (from : Option Form) (s : List ℕ) → Every (λ b. b < 256) s → read_verdict s ≡ Accepted → form_of s ≡ from
    → length s ≡ table_size from (count_of s) → Every (λ x. x ≡ 0) (stored_firsts s)
    → (there back : List ℕ) → table_size (other_form from) (count_of s) ≤ length there → length s ≤ length back
    → handed_over (other_form from) (handed_over from s there) back ≡ s
there_and_back from s bytes reads e no_gap unused there back room_there room_back =
    let to = other_form from in
    let whole : length s ≡ table_size (form_of s) (count_of s) = no_gap ∙ ap (λ (f : Option Form). table_size f (count_of s)) (sym e) in
    let of_form = other_is_form from (ap is_form (sym e) ∙ (known s reads).form) in
    let written = writes s reads to (length there) of_form (none_used to (stored_firsts s) unused) room_there in
    let h = handed_bytes from s there (converts from s (length there) e reads written) in
    let t = bytes_of (converted_from from s) in
    let held = bytes_held s reads to (length there) written in
    let again : converted_from to t ≡ stored_of s =
    ap₂ (λ (f : Option Form) (x : StoredTable). record { form = f; table = x.table; firsts = x.firsts }) (other_twice from ∙ sym e) held.0 in
    let good : convert_verdict to t (length back) ≡ Accepted =
    converts to t (length back) (ap (λ (x : StoredTable). x.form) held.0) held.1
    (ap (λ (x : StoredTable). write_verdict x (length back)) again ∙ writes_again s reads (length back) (omega (arith, whole))) in
    ap (λ (l : List ℕ). handed_over to l back) h ∙ (handed_bytes to t back good ∙ (ap bytes_of again ∙ same_bytes s reads bytes whole))

-- "Back and forth from form one without unread bytes gives the same bytes": form one has no first release other than 0
pub one_and_back : (s : List ℕ) → Every (λ b. b < 256) s → read_verdict s ≡ Accepted → form_of s ≡ Some One → length s ≡ table_size (Some One) (count_of s)
    → (there back : List ℕ) → table_size (Some Two) (count_of s) ≤ length there → length s ≤ length back
    → handed_over (Some Two) (handed_over (Some One) s there) back ≡ s
one_and_back s bytes reads one no_gap =
    let unused : Every (λ x. x ≡ 0) (stored_firsts s) = rw one (firsts_placed (Some One) (record_size (Some One)) s (records_start s) (count_of s)) in
    there_and_back (Some One) s bytes reads one no_gap unused
