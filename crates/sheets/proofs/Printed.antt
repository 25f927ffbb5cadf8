-- What exporting puts into a buffer: a number's digits from the last to the first, a line, one line more. Assumes nothing.
use Rattle.std.proofs.Common.{ℕ, zero, suc, ◌≡◌, ◌+◌, ◌-◌, ◌/◌, ◌%◌, ◌≤◌, ◌<◌, List, [], ◌∷◌, ◌++◌, length, take, get_or, set, refl, sym, ap, ◌∙◌, arith}
use native.Mathlib.Numerals.{add-one}
use lib.ListN.{length-append, length-set}
use lib.Seq.{sets, set_comm, take-suc}
use Rattle.rules.specs.declared.ObjectRow.{ObjectRow}
use Rattle.rules.specs.StoredTable.{no_row}
use Rattle.rules.specs.Sheet.{decimal, field_bytes, line_bytes, sheet_bytes}
use Rattle.rules.proofs.Digits.{decimal_small, decimal_last, decimal_longer, decimal_few}
use Rattle.rules.proofs.Put.{put_then}
use Rattle.rules.proofs.SheetLines.{sheet_last}

-- ── A number's digits ──

-- a byte that is put behind others stays
sets_beside : (xs s : List ℕ) (at j d : ℕ) → at + length xs ≤ j → sets (set s j d) at xs ≡ set (sets s at xs) j d
sets_beside [] s at j d h = refl
sets_beside (x ∷ xs) s at j d h = ap (λ (l : List ℕ). sets l (suc at) xs) (set_comm s j at d x (λ e. omega arith)) ∙ sets_beside xs (set s at x) (suc at) j d (omega arith)

-- the digits behind the place i stand, and those of y are still to be put from `at` on
pub record Putting (s₀ : List ℕ) (at x : ℕ) (s : List ℕ) (y i : ℕ) : Type 0 where
  pub place : i + 1 ≡ at + length (decimal y)
  pub within : i < length s
  pub long : length s ≡ length s₀
  pub so_far : sets s at (decimal y) ≡ sets s₀ at (decimal x)

module _ {s₀ : List ℕ} {at x : ℕ} {s : List ℕ} {y i : ℕ} (p : Putting s₀ at x s y i) where
  pub putting_next : 9 < y → Putting s₀ at x (set s i (48 + y % 10)) (y / 10) (i - 1)
  putting_next h =
      let n = decimal_longer y h in
      let f = (decimal_few (y / 10)).0 in
      let e : i ≡ at + length (decimal (y / 10)) = omega (arith, n, p.place) in
      let d = 48 + y % 10 in
      let put : set (sets s at (decimal (y / 10))) i d ≡ sets s at (decimal (y / 10) ++ (d ∷ [])) = put_then at i (decimal (y / 10)) (d ∷ []) s e refl refl in
      let l : length (set s i d) ≡ length s = length-set s i d in
      record {
        place = omega (arith, e, f);
        within = omega (arith, l, p.within);
        long = l ∙ p.long;
        so_far = sets_beside (decimal (y / 10)) s at i d (omega (arith, e)) ∙ (put ∙ (ap (sets s at) (sym (decimal_last y h)) ∙ p.so_far));
      }

  pub putting_done : y < 10 → set s i (48 + y) ≡ sets s₀ at (decimal x)
  putting_done h =
      let d = decimal_small y h in
      let n : length (decimal y) ≡ 1 = rw d in
      let e : i ≡ at = omega (arith, n, p.place) in
      rw e (ap (sets s at) (sym d) ∙ p.so_far)

-- ── Lines ──

pub line_length : (r : ObjectRow) → length (line_bytes r) ≡ length (decimal r.id) + length (decimal r.cost) + length (decimal r.validity) + length (decimal r.hold) + 5
line_length r = simp length-append (omega arith)

-- behind a field stands what is behind its digits and one byte
pub field_behind : {next : ℕ} (at x stop : ℕ) → next ≡ at + length (decimal x) + 1 → next ≡ at + length (field_bytes x stop)
field_behind at x stop e = omega (arith, e, length-append (decimal x) (stop ∷ []))

-- one row more
pub sheet_next : (rows : List ObjectRow) (i : ℕ) → i < length rows → sheet_bytes (take (i + 1) rows) ≡ sheet_bytes (take i rows) ++ line_bytes (get_or rows i no_row)
sheet_next rows i h =
    let r = get_or rows i no_row in
    let t : take (i + 1) rows ≡ take i rows ++ (r ∷ []) = rw add-one (take-suc rows i no_row h) in
    ap sheet_bytes t ∙ sheet_last (take i rows) r

pub sheet_longer : (rows : List ObjectRow) (i : ℕ) → i < length rows → length (sheet_bytes (take (i + 1) rows)) ≡ length (sheet_bytes (take i rows)) + length (line_bytes (get_or rows i no_row))
sheet_longer rows i h = rw (sheet_next rows i h) (length-append (sheet_bytes (take i rows)) (line_bytes (get_or rows i no_row)))

-- the lines of the first rows are no more bytes than those of all
pub sheet_up_to : (rows : List ObjectRow) (i : ℕ) → length (sheet_bytes (take i rows)) ≤ length (sheet_bytes rows)
sheet_up_to rows zero = omega arith
sheet_up_to [] (suc i) = omega arith
sheet_up_to (r ∷ rs) (suc i) = omega (arith, sheet_up_to rs i, length-append (line_bytes r) (sheet_bytes (take i rs)), length-append (line_bytes r) (sheet_bytes rs))
