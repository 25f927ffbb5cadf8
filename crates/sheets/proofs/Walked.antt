-- The walk over the lines of a sheet: what is known before a line, and the answer at the end. Assumes nothing.
use Prim.Native.Nat.{ℕ, suc, ◌+◌, ◌-◌, ◌≤◌, ◌<◌}
use mathlib.Core.Path.{◌≡◌, refl, sym, ap, ◌∙◌}
use mathlib.Core.List.{List, [], ◌∷◌, ◌++◌}
use mathlib.Core.Option.{none, some}
use native.Mathlib.Decide.{dec_le}
use native.Mathlib.Omega.{arith}
use lib.ListN.{length, take, set, replicate, length-append}
use lib.Seq.{take_all, take-append-le, take_at}
use Rattle.std.proofs.lemmas.List.{nil_from_length}
use Rattle.rules.specs.declared.ObjectRow.{ObjectRow}
use Rattle.rules.specs.declared.Table.{Table}
use Rattle.rules.specs.declared.Refusal.TheVariants.{LineForm}
use Rattle.rules.specs.Answers.{Verdict, Accepted, Refused, checked, read_outcome}
use Rattle.rules.specs.StoredTable.{no_row, no_table, padded, answer, refused_read, table_verdict, door_of}
use Rattle.rules.specs.Sheet.{all_rows, line_bytes, read_line, line_on, lines_from, lines_of, lines_answer}
use Rattle.rules.proofs.Checks.{count_many}
use Rattle.rules.proofs.Lists.{fill_one}
use Rattle.rules.proofs.SheetLines.{a_line, no_line, line_back}
use Rattle.sheets.specs.Found.{put_into}

-- ── The rows that are kept ──

-- the first 64 of the rows seen, and rows of zeros after them
abbrev pub kept : List ObjectRow → ℕ → List ObjectRow
kept seen count = padded count no_row (take 64 seen)

module _ (seen : List ObjectRow) (count : ℕ) (counted : count ≡ length seen) (row : ObjectRow) where
  kept_next : count < 64 → set (kept seen count) count row ≡ kept (seen ++ row ∷ []) (count + 1)
  kept_next h =
      let all : take 64 seen ≡ seen = take_all 64 seen (omega (arith, counted)) in
      let more : take 64 (seen ++ row ∷ []) ≡ seen ++ row ∷ [] = take_all 64 (seen ++ row ∷ []) (simp length-append (omega (arith, counted))) in
      rw (all, more) (fill_one no_row seen 64 count row counted h)

  kept_full : 64 ≤ count → kept seen count ≡ kept (seen ++ row ∷ []) (count + 1)
  kept_full h =
      let e : 64 - count ≡ 0 = omega arith in
      let f : 64 - (count + 1) ≡ 0 = omega arith in
      rw (e, f, take-append-le 64 seen (row ∷ []) (omega (arith, counted)))

-- the checks on what was kept answer as the rules say of all rows
kept_door : (seen : List ObjectRow) (count : ℕ) → count ≡ length seen → answer (table_verdict (record { count = count; rows = kept seen count })) (record { count = count; rows = kept seen count }) ≡ door_of seen
kept_door seen count counted =
    elim (dec_le (length seen) 64) [
      | yes h ↦ rw (counted, take_all 64 seen h, take_at seen (replicate (64 - length seen) no_row) (length seen) refl) refl
      | no h ↦ rw (counted, count_many (length seen) (omega arith)) refl
    ]

-- what is answered of a lent table that was checked
pub put_checked : (v : Verdict) (table : Table) → put_into table (checked v) ≡ read_outcome (answer v table)
put_checked Accepted table = refl
put_checked (Refused r k) table = refl

-- ── The walk ──

-- a line that was read is no empty one
pub line_shorter : (s t : List ℕ) (row : ObjectRow) → read_line s ≡ some (row, t) → length t < length s
line_shorter s t row e =
    let whole = ap (λ (l : List ℕ). length l) (line_back s (row, t) e) in
    let some : 1 ≤ length (line_bytes row) = simp length-append (omega arith) in
    omega (arith, whole, length-append (line_bytes row) t)

-- the lines before the rest are read
pub record Walked (s : List ℕ) (rows : List ObjectRow) (count : ℕ) (rest : List ℕ) : Type 0 where
  pub seen : List ObjectRow
  pub left : ℕ
  pub counted : count ≡ length seen
  pub rows_are : rows ≡ kept seen count
  pub enough : length rest ≤ left
  pub fewer : count + length rest ≤ length s
  pub state : lines_of s ≡ lines_from left seen rest

pub walked_none : (s : List ℕ) → Walked s no_table.rows 0 s
walked_none s = record { seen = []; left = length s; counted = refl; rows_are = refl; enough = omega arith; fewer = omega arith; state = refl }

module _ {s : List ℕ} {rows : List ObjectRow} {count : ℕ} {rest : List ℕ} (w : Walked s rows count rest) where
  pub all_read : length rest ≡ 0 → answer (table_verdict (record { count = count; rows = rows })) (record { count = count; rows = rows }) ≡ lines_answer (lines_of s)
  all_read h =
      let e : lines_of s ≡ all_rows w.seen = w.state ∙ (ap (lines_from w.left w.seen) (nil_from_length rest h) ∙ no_line w.left w.seen) in
      ap (λ (l : List ObjectRow). answer (table_verdict (record { count = count; rows = l })) (record { count = count; rows = l })) w.rows_are ∙ (kept_door w.seen count w.counted ∙ ap lines_answer (sym e))

  module _ (h : 0 < length rest) where
    on : lines_of s ≡ line_on (lines_from (w.left - 1)) w.seen (read_line rest)
    on =
        let e : w.left ≡ suc (w.left - 1) = omega (arith, h, w.enough) in
        w.state ∙ (ap (λ (n : ℕ). lines_from n w.seen rest) e ∙ a_line (w.left - 1) w.seen rest (omega arith))

    pub bad_line_law : read_line rest ≡ none → refused_read LineForm count ≡ lines_answer (lines_of s)
    bad_line_law e = rw (on, e, w.counted)

    module _ {row : ObjectRow} {behind : List ℕ} (e : read_line rest ≡ some (row, behind)) where
      walked_on : {rows' : List ObjectRow} → rows' ≡ kept (w.seen ++ row ∷ []) (count + 1) → Walked s rows' (count + 1) behind
      walked_on q =
          let k = line_shorter rest behind row e in
          record {
            seen = w.seen ++ row ∷ [];
            left = w.left - 1;
            counted = simp length-append (omega (arith, w.counted));
            rows_are = q;
            enough = omega (arith, k, w.enough);
            fewer = omega (arith, k, w.fewer);
            state = on ∙ rw e;
          }

      pub walked_kept : {rows' : List ObjectRow} → count < 64 → rows' ≡ set rows count row → Walked s rows' (count + 1) behind
      walked_kept m q = walked_on (q ∙ (ap (λ (r : List ObjectRow). set r count row) w.rows_are ∙ kept_next w.seen count w.counted row m))

      pub walked_full : {rows' : List ObjectRow} → 64 ≤ count → rows' ≡ rows → Walked s rows' (count + 1) behind
      walked_full m q = walked_on (q ∙ (w.rows_are ∙ kept_full w.seen count w.counted row m))
