-- Writing and reading are the two ways of one road, in both stored forms: what is written reads back as the same form, rows and first
-- releases in the same order, and a table that reads and has no unread bytes, written again, gives the same bytes.
-- Assumes nothing but what each statement says. Bytes are lists of numbers below 256.
use Rattle.std.specs.Prelude.{ℕ, zero, suc, ◌+◌, ◌-◌, ◌*◌, ◌/◌, ◌%◌, ◌≤◌, ◌<◌, ◌≡◌, refl, Bool, true, false, cond, List, [], ◌∷◌, ◌++◌, eqb, length, take, drop, get_or, Option, Some, None}
use Rattle.std.proofs.Common.{sym, ap, ap₂, ◌∙◌, append_assoc, mul-zero, mul-suc, arith, add-one, le-leb, eqb-true, eq-eqb, length-append, length-drop, take-append-drop, get_or-append-add, drop-drop, take-add, drop-cons, take_all, length-take-le}
use Rattle.std.proofs.Math.Seq.{take-append_seam}
use Rattle.rules.specs.declared.ObjectRow.{ObjectRow}
use Rattle.rules.specs.declared.Form.{Form}
use Rattle.rules.specs.declared.Form.TheVariants.{One, Two}
use Rattle.rules.specs.declared.StoredTable.{StoredTable}
use Rattle.rules.specs.declared.Refusal.TheVariants.{WrongMark, FirstUsed}
use Rattle.rules.specs.Answers.{Accepted}
use Rattle.rules.specs.StoredTable.{table_of, padded, rows_in, le16, le32, distance_of, count_of, mark_of, form_mark, first_size, record_size}
use Rattle.rules.specs.StoredTable.{table_size, form_of, is_form, row_of, first_at, records_of, records_start, stored_rows, stored_firsts, stored_of}
use Rattle.rules.specs.StoredTable.{count_verdict, checks_from, table_verdict, trailer_verdict, read_verdict, read_of}
use Rattle.rules.specs.Writing.{bytes16, bytes32, row_bytes, first_bytes, record_bytes, records_bytes, trailer_bytes, table_bytes, bytes_of}
use Rattle.rules.specs.Writing.{unused_from, unused_verdict, room_verdict, write_verdict, written_of, buffer_after}
use Rattle.rules.proofs.Lists.{Every, every_at, every_append}
use Rattle.rules.proofs.Checks.{both_accept, test_passed, count_said, Ranged, all_ranged}
use Rattle.rules.proofs.Bytes.{record_length, records_length, table_length}
use Rattle.rules.proofs.ReadBytes.{known, rows_count, rows_in_law, firsts_in, well_formed}
use Rattle.rules.proofs.Trailer.{in_order_law}

-- ── The first releases that a form has a place for ──

-- form one has none, so it reads as 0
abbrev HasPlace : Option Form → ℕ → Type 0
HasPlace None x = x ≡ 0
HasPlace (Some One) x = x ≡ 0
HasPlace (Some Two) x = Unit {0}

unused_zero : (at : ℕ) (xs : List ℕ) → unused_from at xs ≡ Accepted → Every (λ x. x ≡ 0) xs
unused_zero at [] e = tt
unused_zero at (x ∷ xs) e =
    let p = test_passed (eqb x 0) FirstUsed at _ e in
    (eqb-true x 0 p.0, unused_zero (at + 1) xs p.1)

pub zero_unused : (at : ℕ) (xs : List ℕ) → Every (λ x. x ≡ 0) xs → unused_from at xs ≡ Accepted
zero_unused at [] z = refl
zero_unused at (x ∷ xs) z = rw (eq-eqb x 0 z.0) (zero_unused (at + 1) xs z.1)

any_place : (xs : List ℕ) → Every (HasPlace (Some Two)) xs
any_place [] = tt
any_place (x ∷ xs) = (tt, any_place xs)

-- 18 passed: there is a place for each
placed : (form : Option Form) (xs : List ℕ) → is_form form ≡ true → unused_verdict form xs ≡ Accepted → Every (HasPlace form) xs
placed None xs f e = let z : ◌≡◌ {A = ℕ} 0 1 = cc in absurd (omega arith)
placed (Some One) xs f e = unused_zero 0 xs e
placed (Some Two) xs f e = any_place xs

pub in_place : (form : Option Form) (xs : List ℕ) → Every (HasPlace form) xs → unused_verdict form xs ≡ Accepted
in_place None xs h = refl
in_place (Some One) xs h = zero_unused 0 xs h
in_place (Some Two) xs h = refl

-- what is read of a form has its place there
first_placed : (form : Option Form) (s : List ℕ) (at : ℕ) → HasPlace form (first_at form s at)
first_placed None s at = refl
first_placed (Some One) s at = refl
first_placed (Some Two) s at = tt

pub firsts_placed : (form : Option Form) (size : ℕ) (s : List ℕ) (at n : ℕ) → Every (HasPlace form) (records_of (first_at form) size s at n)
firsts_placed form size s at zero = tt
firsts_placed form size s at (suc n) =
    every_append (HasPlace form) (records_of (first_at form) size s at n) (first_at form s (at + size * n) ∷ [])
    (firsts_placed form size s at n) (first_placed form s (at + size * n), tt)

-- ── Numbers behind other bytes ──

module _ (xs ys : List ℕ) (at i : ℕ) (place : at ≡ length xs + i) where
  le16_behind : le16 (xs ++ ys) at ≡ le16 ys i
  le16_behind =
      let e : at + 1 ≡ length xs + (i + 1) = omega arith in
      rw (place, get_or-append-add xs ys i 0, ← place, e, get_or-append-add xs ys (i + 1) 0)

module _ (xs ys : List ℕ) (at i : ℕ) (place : at ≡ length xs + i) where
  le32_behind : le32 (xs ++ ys) at ≡ le32 ys i
  le32_behind =
      let e : at + 2 ≡ length xs + (i + 2) = omega arith in
      rw (le16_behind xs ys at i place, le16_behind xs ys (at + 2) (i + 2) e)

-- ── Written, then read ──

-- a record reads as its row, its spare field as the hold, and as its first release
module _ (form : Option Form) (xs : List ℕ) (r : ObjectRow) (x : ℕ) (ys : List ℕ) (at : ℕ) (e : at ≡ length xs + 0) where
  row_back : Ranged r → row_of (xs ++ (record_bytes form r x ++ ys)) at ≡ r
  row_back g =
      let s = record_bytes form r x ++ ys in
      let h : at + 2 ≡ length xs + 2 = omega arith in
      let c : at + 4 ≡ length xs + 4 = omega arith in
      let v : at + 8 ≡ length xs + 8 = omega arith in
      let i : le16 s 0 ≡ r.id = omega arith in
      let j : le32 s 4 ≡ r.cost = omega arith in
      let k : le32 s 8 ≡ r.validity = omega arith in
      let l : le16 s 2 + 1 ≡ r.hold = omega (arith, g.hold_from) in
      rw (le16_behind xs s at 0 e, le32_behind xs s (at + 4) 4 c, le32_behind xs s (at + 8) 8 v, le16_behind xs s (at + 2) 2 h, i, j, k, l)

  first_back : HasPlace form x → first_at form (xs ++ (record_bytes form r x ++ ys)) at ≡ x
  first_back = by_form form
    where
      by_form : (f : Option Form) → HasPlace f x → first_at f (xs ++ (record_bytes f r x ++ ys)) at ≡ x
      by_form None h = sym h
      by_form (Some One) h = sym h
      by_form (Some Two) h = le32_behind xs (record_bytes (Some Two) r x ++ ys) (at + 12) 12 (omega arith) ∙ omega arith

-- records from the first on
records_cons : {A : Type 0} (f : List ℕ → ℕ → A) (size : ℕ) (s : List ℕ) (at n : ℕ)
    → records_of f size s at (suc n) ≡ f s at ∷ records_of f size s (at + size) n
records_cons f size s at zero = let e : at + size * 0 ≡ at = rw (mul-zero size) (omega arith) in rw e
records_cons f size s at (suc n) =
    let e : at + size * suc n ≡ at + size + size * n = rw (mul-suc size n) (omega arith) in
    rw (records_cons f size s at n, e)

-- the rows and the first releases of records that stand anywhere in the bytes s
record Back (form : Option Form) (s : List ℕ) (at : ℕ) (rows : List ObjectRow) (firsts : List ℕ) : Type 0 where
  rows_are : records_of row_of (record_size form) s at (length rows) ≡ rows
  firsts_are : records_of (first_at form) (record_size form) s at (length rows) ≡ firsts

all_back : (form : Option Form) (s xs : List ℕ) (rows : List ObjectRow) (firsts ys : List ℕ) (at : ℕ)
    → Every Ranged rows → Every (HasPlace form) firsts → length firsts ≡ length rows
    → s ≡ xs ++ (records_bytes form rows firsts ++ ys) → at ≡ length xs + 0 → Back form s at rows firsts
all_back form s xs [] [] ys at g h n e p = record { rows_are = refl; firsts_are = refl }
all_back form s xs [] (x ∷ fs) ys at g h n e p = absurd (omega arith)
all_back form s xs (r ∷ rs) [] ys at g h n e p = absurd (omega arith)
all_back form s xs (r ∷ rs) (x ∷ fs) ys at g h n e p =
    let size = record_size form in
    let one = record_bytes form r x in
    let more = records_bytes form rs fs ++ ys in
    let a : s ≡ xs ++ (one ++ more) = e ∙ ap (λ (l : List ℕ). xs ++ l) (append_assoc one (records_bytes form rs fs) ys) in
    let b : s ≡ (xs ++ one) ++ more = a ∙ sym (append_assoc xs one more) in
    let q : at + size ≡ length (xs ++ one) + 0 = simp length-append (omega (arith, record_length form r x)) in
    let others = all_back form s (xs ++ one) rs fs ys (at + size) g.1 h.1 (omega arith) b q in
    let row : row_of s at ≡ r = ap (λ (l : List ℕ). row_of l at) a ∙ row_back form xs r x more at p g.0 in
    let first : first_at form s at ≡ x = ap (λ (l : List ℕ). first_at form l at) a ∙ first_back form xs r x more at p h.0 in
    record {
      rows_are =
          records_cons row_of size s at (length rs)
          ∙ ap₂ {C = List ObjectRow} (λ (y : ObjectRow) (l : List ObjectRow). y ∷ l) row others.rows_are;
      firsts_are =
          records_cons (first_at form) size s at (length rs)
          ∙ ap₂ {C = List ℕ} (λ (y : ℕ) (l : List ℕ). y ∷ l) first others.firsts_are;
    }

-- 64 records and the trailer are well below 4,096 bytes
size_small : (form : Option Form) (n : ℕ) → n ≤ 64 → table_size form n ≤ 1032
size_small None n h = omega arith
size_small (Some One) n h = omega arith
size_small (Some Two) n h = omega arith

form_marked : (form : Option Form) (s : List ℕ) → is_form form ≡ true → mark_of s ≡ form_mark form → form_of s ≡ form
form_marked None s f e = let z : ◌≡◌ {A = ℕ} 0 1 = cc in absurd (omega arith)
form_marked (Some One) s f e = rw e
form_marked (Some Two) s f e = rw e

-- and back: the mark is that of the form
mark_of_law : (s : List ℕ) → is_form (form_of s) ≡ true → form_mark (form_of s) ≡ mark_of s
mark_of_law s = by_one (eqb (mark_of s) (form_mark (Some One))) refl (eqb (mark_of s) (form_mark (Some Two))) refl
  where
    by_one : (a : Bool) → eqb (mark_of s) (form_mark (Some One)) ≡ a → (b : Bool) → eqb (mark_of s) (form_mark (Some Two)) ≡ b
        → is_form (cond a (Some One) (cond b (Some Two) None)) ≡ true → form_mark (cond a (Some One) (cond b (Some Two) None)) ≡ mark_of s
    by_one true p b q e = sym (eqb-true (mark_of s) (form_mark (Some One)) p)
    by_one false p true q e = sym (eqb-true (mark_of s) (form_mark (Some Two)) q)
    by_one false p false q e = let z : ◌≡◌ {A = ℕ} 0 1 = cc in absurd (omega arith)

module _ (form : Option Form) (rows : List ObjectRow) (firsts : List ℕ) (of_form : is_form form ≡ true) (few : length rows ≤ 64) where
  abbrev records : List ℕ
  records = records_bytes form rows firsts

  abbrev trailer : List ℕ
  trailer = trailer_bytes form (length rows)

  abbrev s : List ℕ
  s = table_bytes form rows firsts

  long : length s ≡ table_size form (length rows)
  long = table_length form rows firsts

  at_trailer : (i : ℕ) → i ≤ 8 → length s - (8 - i) ≡ length records + i
  at_trailer i h = omega (arith, long, records_length form rows firsts)

  distance_back : distance_of s ≡ table_size form (length rows)
  distance_back = le32_behind records trailer (length s - 8) 0 (at_trailer 0 (omega arith)) ∙ omega arith

  count_back : count_of s ≡ length rows
  count_back = le16_behind records trailer (length s - 4) 4 (at_trailer 4 (omega arith)) ∙ omega arith

  mark_back : mark_of s ≡ form_mark form
  mark_back = le16_behind records trailer (length s - 2) 6 (at_trailer 6 (omega arith)) ∙ omega arith

  form_back : form_of s ≡ form
  form_back = form_marked form s of_form mark_back

  start_back : records_start s ≡ 0 + 0
  start_back = omega (arith, long, distance_back)

  trailer_back : 1 ≤ length rows → trailer_verdict s ≡ Accepted
  trailer_back some =
      let small = size_small form (length rows) few in
      let size : table_size (form_of s) (count_of s) ≡ table_size form (length rows) = ap₂ table_size form_back count_back in
      in_order_law s (omega (arith, long)) (omega (arith, long, small)) (rw form_back of_form) (omega (arith, count_back))
      (omega (arith, count_back)) (omega (arith, size, distance_back)) (omega (arith, long, distance_back))

  module _ (good : checks_from 0 [] rows ≡ Accepted) (fit : Every (HasPlace form) firsts) (same : length firsts ≡ length rows) where
    back : Back form s (records_start s) rows firsts
    back = all_back form s [] rows firsts trailer (records_start s) (all_ranged 0 [] rows good) fit same refl start_back

    rows_back : stored_rows s ≡ rows
    rows_back = rw (form_back, count_back) back.rows_are

    firsts_back : stored_firsts s ≡ firsts
    firsts_back = rw (form_back, count_back) back.firsts_are

    stored_back : stored_of s ≡ record { form = form; table = table_of rows; firsts = padded (length rows) 0 firsts }
    stored_back = rw (rows_back, firsts_back, form_back, count_back)

    reads_back : 1 ≤ length rows → read_verdict s ≡ Accepted
    reads_back some = rw (trailer_back some, rows_back) good

-- ── Read, then written ──

joined : {a b c d : List ℕ} → a ≡ b → c ≡ d → a ++ c ≡ b ++ d
joined e f = ap₂ (λ (x y : List ℕ). x ++ y) e f

module _ (s : List ℕ) (bytes : Every (λ b. b < 256) s) where
  -- parts of the bytes that follow each other
  parts : (at m n : ℕ) → take m (drop at s) ++ take n (drop (at + m) s) ≡ take (m + n) (drop at s)
  parts at m n = rw (← drop-drop m at s) (sym (take-add m n (drop at s)))

  byte : (at : ℕ) → at < length s → get_or s at 0 < 256
  byte at h = every_at (λ b. b < 256) 0 s bytes at h

  low16 : (at : ℕ) → at + 2 ≤ length s → le16 s at < 65536
  low16 at h = omega (arith, byte at (omega arith), byte (at + 1) (omega arith))

  two_bytes : (at : ℕ) → at + 2 ≤ length s → bytes16 (le16 s at) ≡ take 2 (drop at s)
  two_bytes at h =
      let low : le16 s at % 256 ≡ get_or s at 0 = omega (arith, byte at (omega arith), byte (at + 1) (omega arith)) in
      let high : le16 s at / 256 ≡ get_or s (at + 1) 0 = omega (arith, byte at (omega arith), byte (at + 1) (omega arith)) in
      let d : drop at s ≡ get_or s at 0 ∷ get_or s (suc at) 0 ∷ drop (suc (suc at)) s =
      drop-cons s at 0 (omega arith) ∙ ap (λ (l : List ℕ). get_or s at 0 ∷ l) (drop-cons s (suc at) 0 (omega arith)) in
      rw (low, high, d) (ap (λ (n : ℕ). get_or s at 0 ∷ get_or s n 0 ∷ []) (add-one at))

  four_bytes : (at : ℕ) → at + 4 ≤ length s → bytes32 (le32 s at) ≡ take 4 (drop at s)
  four_bytes at h =
      let low : le32 s at % 65536 ≡ le16 s at = omega (arith, low16 at (omega arith)) in
      let high : le32 s at / 65536 ≡ le16 s (at + 2) = omega (arith, low16 at (omega arith)) in
      ap₂ (λ (x y : ℕ). bytes16 x ++ bytes16 y) low high
      ∙ (joined (two_bytes at (omega arith)) (two_bytes (at + 2) (omega arith)) ∙ parts at 2 2)

  a_row : (at : ℕ) → at + 12 ≤ length s → row_bytes (row_of s at) ≡ take 12 (drop at s)
  a_row at h =
      let less : le16 s (at + 2) + 1 - 1 ≡ le16 s (at + 2) = omega arith in
      let spare : bytes16 (le16 s (at + 2) + 1 - 1) ≡ take 2 (drop (at + 2) s) = ap bytes16 less ∙ two_bytes (at + 2) (omega arith) in
      let p : at + 2 + 2 ≡ at + 4 = omega arith in
      let q : at + 4 + 4 ≡ at + 8 = omega arith in
      let numbers = joined (four_bytes (at + 4) (omega arith)) (four_bytes (at + 8) (omega arith)) ∙ rw q at (parts (at + 4) 4 4) in
      let behind = joined spare numbers ∙ rw p at (parts (at + 2) 2 8) in
      joined (two_bytes at (omega arith)) behind ∙ parts at 2 10

  a_first : (form : Option Form) (at : ℕ) → at + record_size form ≤ length s
      → first_bytes form (first_at form s at) ≡ take (first_size form) (drop (at + 12) s)
  a_first None at h = refl
  a_first (Some One) at h = refl
  a_first (Some Two) at h = four_bytes (at + 12) (omega arith)

  a_record : (form : Option Form) (at : ℕ) → at + record_size form ≤ length s
      → record_bytes form (row_of s at) (first_at form s at) ≡ take (record_size form) (drop at s)
  a_record form at h = joined (a_row at (omega arith)) (a_first form at h) ∙ parts at 12 (first_size form)

  the_records : (form : Option Form) (at n : ℕ) → at + record_size form * n ≤ length s
      → records_bytes form (records_of row_of (record_size form) s at n) (records_of (first_at form) (record_size form) s at n)
      ≡ take (record_size form * n) (drop at s)
  the_records form at zero h = rw (mul-zero (record_size form))
  the_records form at (suc n) h =
      let size = record_size form in
      let e : size * suc n ≡ size + size * n = rw (mul-suc size n) (omega arith) in
      let one = a_record form at (omega (arith, e)) in
      let others = the_records form (at + size) n (omega (arith, e)) in
      ap₂ (records_bytes form) (records_cons row_of size s at n) (records_cons (first_at form) size s at n)
      ∙ (joined one others ∙ rw e (parts at size (size * n)))

-- bytes that read may be written
module _ (s : List ℕ) (reads : read_verdict s ≡ Accepted) where
  -- what was read may be written in a form that has a place for its first releases, into a buffer that has room
  pub writes : (form : Option Form) (size : ℕ) → is_form form ≡ true → unused_verdict form (stored_firsts s) ≡ Accepted
      → table_size form (count_of s) ≤ size
      → write_verdict (record { form = form; table = (stored_of s).table; firsts = (stored_of s).firsts }) size ≡ Accepted
  writes form size of_form unused room =
      let fits : room_verdict (table_size form (length (stored_rows s))) size ≡ Accepted =
      rw (rows_count s reads, le-leb (table_size form (count_of s)) size room) in
      rw (of_form, well_formed s reads, firsts_in s reads, unused, fits)

  pub writes_again : (size : ℕ) → table_size (form_of s) (count_of s) ≤ size → write_verdict (stored_of s) size ≡ Accepted
  writes_again size room =
      writes (form_of s) size (known s reads).form
      (in_place (form_of s) (stored_firsts s) (firsts_placed (form_of s) (record_size (form_of s)) s (records_start s) (count_of s))) room

  module _ (bytes : Every (λ b. b < 256) s) (no_gap : length s ≡ table_size (form_of s) (count_of s)) where
    start_zero : records_start s ≡ 0
    start_zero = omega (arith, no_gap, (known s reads).room, (known s reads).within)

    -- the bytes of what the bytes hold are the bytes
    pub same_bytes : bytes_of (stored_of s) ≡ s
    same_bytes =
        let f = form_of s in
        let n = count_of s in
        let m = record_size f * n in
        let d : table_size f n ≡ distance_of s = omega (arith, no_gap, (known s reads).room, (known s reads).within) in
        let a : records_bytes f (stored_rows s) (stored_firsts s) ≡ take m s =
        rw start_zero (the_records s bytes f 0 n (omega (arith, no_gap))) in
        let p : length s - 8 ≡ m = omega (arith, no_gap) in
        let q : length s - 4 ≡ m + 4 = omega (arith, no_gap) in
        let r : length s - 2 ≡ m + 6 = omega (arith, no_gap) in
        let distance : bytes32 (table_size f n) ≡ take 4 (drop m s) =
        ap bytes32 d ∙ (four_bytes s bytes (length s - 8) (omega arith) ∙ ap (λ (k : ℕ). take 4 (drop k s)) p) in
        let count : bytes16 n ≡ take 2 (drop (m + 4) s) =
        two_bytes s bytes (length s - 4) (omega arith) ∙ ap (λ (k : ℕ). take 2 (drop k s)) q in
        let mark : bytes16 (form_mark f) ≡ take 2 (drop (m + 6) s) =
        ap bytes16 (mark_of_law s (known s reads).form) ∙ (two_bytes s bytes (length s - 2) (omega arith) ∙ ap (λ (k : ℕ). take 2 (drop k s)) r) in
        let whole : take 8 (drop m s) ≡ drop m s = take_all 8 (drop m s) (simp length-drop (omega (arith, no_gap))) in
        let e : m + 4 + 2 ≡ m + 6 = omega arith in
        let behind = joined count mark ∙ rw e at (parts s bytes (m + 4) 2 2) in
        let t : trailer_bytes f n ≡ drop m s = joined distance behind ∙ (parts s bytes m 4 4 ∙ whole) in
        rw (rows_in_law s reads, firsts_in s reads, rows_count s reads, a, t) (take-append-drop m s)

-- ── The promises ──

-- a stored table as it is used: the rows and first releases of the count, "Rows beyond the count are zero or none"
abbrev pub used_of : StoredTable → StoredTable
used_of stored =
    let n = stored.table.count in
    record { form = stored.form; table = table_of (rows_in stored.table); firsts = padded n 0 (take n stored.firsts) }

module _ (stored : StoredTable) (size : ℕ) (rows-64 : length stored.table.rows ≡ 64) (firsts-64 : length stored.firsts ≡ 64)
    (good : write_verdict stored size ≡ Accepted) where
  -- the bytes of a stored table hold it
  pub bytes_hold : (stored_of (bytes_of stored) ≡ used_of stored) × (read_verdict (bytes_of stored) ≡ Accepted)
  bytes_hold =
      let form = stored.form in
      let n = stored.table.count in
      let rows = rows_in stored.table in
      let firsts = take n stored.firsts in
      let of_form = test_passed (is_form form) WrongMark 0 _ good in
      let table = both_accept (table_verdict stored.table) _ of_form.1 in
      let unused = (both_accept (unused_verdict form firsts) _ table.1).0 in
      let checks = both_accept (count_verdict n) (checks_from 0 [] rows) table.0 in
      let count = count_said n checks.0 in
      let a : length rows ≡ n = length-take-le n stored.table.rows (omega arith) in
      let b : length firsts ≡ n = length-take-le n stored.firsts (omega arith) in
      let few : length rows ≤ 64 = omega arith in
      let fit = placed form firsts of_form.0 unused in
      let same : length firsts ≡ length rows = b ∙ sym a in (
        stored_back form rows firsts of_form.0 few checks.1 fit same ∙ rw a,
        reads_back form rows firsts of_form.0 few checks.1 fit same (omega arith),
      )

-- what is written into a buffer reads back as the same form, rows and first releases in the same order
pub written_reads_back : (stored : StoredTable) (buffer : List ℕ) → length stored.table.rows ≡ 64 → length stored.firsts ≡ 64
    → write_verdict stored (length buffer) ≡ Accepted
    → read_of (take (written_of stored (length buffer)).size (buffer_after stored buffer))
    ≡ record { verdict = Accepted; stored = used_of stored }
written_reads_back stored buffer rows-64 firsts-64 good =
    let s : take (written_of stored (length buffer)).size (buffer_after stored buffer) ≡ bytes_of stored =
    rw good (take-append_seam (bytes_of stored) _) in
    let held = bytes_hold stored (length buffer) rows-64 firsts-64 good in
    rw (s, held.0, held.1)

-- a table that reads and has no unread bytes, written again, gives the same bytes, and what stands behind them in the buffer stays
pub read_writes_back : (s : List ℕ) → Every (λ b. b < 256) s → read_verdict s ≡ Accepted → length s ≡ table_size (form_of s) (count_of s)
    → (buffer : List ℕ) → length s ≤ length buffer → buffer_after (read_of s).stored buffer ≡ s ++ drop (length s) buffer
read_writes_back s bytes reads no_gap buffer room =
    let t : (read_of s).stored ≡ stored_of s = rw reads in
    let good = writes_again s reads (length buffer) (omega (arith, no_gap)) in
    rw (t, good, same_bytes s reads bytes no_gap)
