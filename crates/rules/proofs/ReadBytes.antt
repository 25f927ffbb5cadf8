-- What is known of stored bytes that read: their trailer, and that the table which they hold is well-formed. Assumes nothing.
use Prim.Native.Nat.{ℕ}
use mathlib.Core.Path.{◌≡◌, sym, ◌∙◌}
use mathlib.Core.List.{List, []}
use native.Mathlib.Omega.{arith}
use lib.ListN.{length, take}
use lib.Seq.{take-append_seam, take_at}
use Rattle.rules.specs.Answers.{Accepted}
use Rattle.rules.specs.StoredTable.{record_size, form_of, count_of, records_start, row_of, first_at, stored_rows, stored_firsts, stored_of}
use Rattle.rules.specs.StoredTable.{rows_in, checks_from, table_verdict, trailer_verdict, read_verdict}
use Rattle.rules.proofs.Checks.{both_accept, count_in}
use Rattle.rules.proofs.Bytes.{records_count}
use Rattle.rules.proofs.Trailer.{Readable, readable}

module _ (s : List ℕ) (reads : read_verdict s ≡ Accepted) where
  checked : (trailer_verdict s ≡ Accepted) × (checks_from 0 [] (stored_rows s) ≡ Accepted)
  checked = both_accept (trailer_verdict s) (checks_from 0 [] (stored_rows s)) reads

  pub known : Readable s
  known = readable s checked.0

  pub rows_count : length (stored_rows s) ≡ count_of s
  rows_count = records_count row_of (record_size (form_of s)) s (records_start s) (count_of s)

  pub firsts_count : length (stored_firsts s) ≡ count_of s
  firsts_count = records_count (first_at (form_of s)) (record_size (form_of s)) s (records_start s) (count_of s)

  -- the rows and first releases in use are those of the records
  pub rows_in_law : rows_in (stored_of s).table ≡ stored_rows s
  rows_in_law = take-append_seam (stored_rows s) _

  pub firsts_in : take (stored_of s).table.count (stored_of s).firsts ≡ stored_firsts s
  firsts_in = take_at (stored_firsts s) _ (length (stored_rows s)) (firsts_count ∙ sym rows_count)

  pub well_formed : table_verdict (stored_of s).table ≡ Accepted
  well_formed =
      let some = count_in (length (stored_rows s)) (omega (arith, rows_count, known.some)) (omega (arith, rows_count, known.few)) in
      rw (some, rows_in_law) checked.1
