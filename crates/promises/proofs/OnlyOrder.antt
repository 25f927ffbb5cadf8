-- The order is a sorted permutation of the places in use, and the only one: shortest validity first, then the larger cost, then the
-- smaller id. Assumes nothing.
use Rattle.std.specs.Prelude.{ℕ, zero, suc, ◌+◌, ◌-◌, ◌≤◌, ◌<◌, ◌≡◌, refl, Bool, true, false, cond, List, [], ◌∷◌, eqb, ltb, take, replicate}
use Rattle.std.proofs.Common.{sym, ap₂, ◌∙◌, arith, eqb-true, ltb-true, ltb-false, eq-eqb, ne_eqb, le-ltb, take_at}
use Rattle.std.proofs.Math.Decide.{dec_lt, ℕ_discrete}
use Rattle.std.proofs.lemmas.Bool.{eqb-false}
use Rattle.rules.specs.declared.ObjectRow.{ObjectRow}
use Rattle.rules.specs.Order.{is_ahead, row_at, insert_place, places_of, order_of}
use Rattle.rules.proofs.Lists.{Every}
use Rattle.rules.proofs.Places.{places_length, places_below}
use Rattle.promises.specs.OnlyOrder.{Behind, AllBehind, Sorted, times, Ordered}
use Rattle.promises.specs.OnlyOrder.Behind.{by_validity, by_cost, by_id}

-- ── Laws ──

pub behind_trans : {a b c : ObjectRow} → Behind a b → Behind b c → Behind a c
behind_trans (by_validity h) (by_validity k) = by_validity (omega arith)
behind_trans (by_validity h) (by_cost k l) = by_validity (omega arith)
behind_trans (by_validity h) (by_id k l m) = by_validity (omega arith)
behind_trans (by_cost h i) (by_validity k) = by_validity (omega arith)
behind_trans (by_cost h i) (by_cost k l) = by_cost (omega arith) (omega arith)
behind_trans (by_cost h i) (by_id k l m) = by_cost (omega arith) (omega arith)
behind_trans (by_id h i j) (by_validity k) = by_validity (omega arith)
behind_trans (by_id h i j) (by_cost k l) = by_cost (omega arith) (omega arith)
behind_trans (by_id h i j) (by_id k l m) = by_id (omega arith) (omega arith) (omega arith)

-- the test and what it says, both ways
pub test_false : (a b : ObjectRow) → is_ahead a b ≡ false → Behind a b
test_false a b = v (eqb a.validity b.validity) refl
  where
    c : (t : Bool) → eqb a.cost b.cost ≡ t → a.validity ≡ b.validity → cond t (ltb a.id b.id) (ltb b.cost a.cost) ≡ false → Behind a b
    c true e q f = by_id (sym q) (sym (eqb-true a.cost b.cost e)) (ltb-false a.id b.id f)
    c false e q f = by_cost (sym q) (let n = eqb-false a.cost b.cost e in let l = ltb-false b.cost a.cost f in omega arith)

    v : (t : Bool) → eqb a.validity b.validity ≡ t → cond t (cond (eqb a.cost b.cost) (ltb a.id b.id) (ltb b.cost a.cost)) (ltb a.validity b.validity) ≡ false → Behind a b
    v true e f = c (eqb a.cost b.cost) refl (eqb-true a.validity b.validity e) f
    v false e f = by_validity (let n = eqb-false a.validity b.validity e in let l = ltb-false a.validity b.validity f in omega arith)

pub test_true : (a b : ObjectRow) → is_ahead a b ≡ true → Behind b a
test_true a b = v (eqb a.validity b.validity) refl
  where
    c : (t : Bool) → eqb a.cost b.cost ≡ t → a.validity ≡ b.validity → cond t (ltb a.id b.id) (ltb b.cost a.cost) ≡ true → Behind b a
    c true e q f = by_id q (eqb-true a.cost b.cost e) (let l = ltb-true a.id b.id f in omega arith)
    c false e q f = by_cost q (ltb-true b.cost a.cost f)

    v : (t : Bool) → eqb a.validity b.validity ≡ t → cond t (cond (eqb a.cost b.cost) (ltb a.id b.id) (ltb b.cost a.cost)) (ltb a.validity b.validity) ≡ true → Behind b a
    v true e f = c (eqb a.cost b.cost) refl (eqb-true a.validity b.validity e) f
    v false e f = by_validity (ltb-true a.validity b.validity f)

all_behind : (rows : List ObjectRow) (r s : ObjectRow) (qs : List ℕ) → Behind s r → AllBehind rows s qs → AllBehind rows r qs
all_behind rows r s [] h a = tt
all_behind rows r s (q ∷ qs) h a = (behind_trans a.0 h, all_behind rows r s qs h a.1)

insert_behind : (rows : List ObjectRow) (r : ObjectRow) (p : ℕ) (qs : List ℕ) → Behind (row_at rows p) r → AllBehind rows r qs → AllBehind rows r (insert_place rows p qs)
insert_behind rows r p [] h a = (h, tt)
insert_behind rows r p (q ∷ qs) h a = step (is_ahead (row_at rows p) (row_at rows q)) (insert_behind rows r p qs h a.1)
  where
    step : (t : Bool) → AllBehind rows r (insert_place rows p qs) → AllBehind rows r (cond t (p ∷ q ∷ qs) (q ∷ insert_place rows p qs))
    step true i = (h, a)
    step false i = (a.0, i)

insert_sorted : (rows : List ObjectRow) (p : ℕ) (qs : List ℕ) → Sorted rows qs → Sorted rows (insert_place rows p qs)
insert_sorted rows p [] s = (tt, tt)
insert_sorted rows p (q ∷ qs) s = step (is_ahead (row_at rows p) (row_at rows q)) refl (insert_sorted rows p qs s.1)
  where
    step : (t : Bool) → is_ahead (row_at rows p) (row_at rows q) ≡ t → Sorted rows (insert_place rows p qs) → Sorted rows (cond t (p ∷ q ∷ qs) (q ∷ insert_place rows p qs))
    step true e i = let h = test_true (row_at rows p) (row_at rows q) e in ((h, all_behind rows (row_at rows p) (row_at rows q) qs h s.0), s)
    step false e i = (insert_behind rows (row_at rows q) p qs (test_false (row_at rows p) (row_at rows q) e) s.0, i)

pub order_sorted : (rows : List ObjectRow) (n : ℕ) → Sorted rows (places_of rows n)
order_sorted rows zero = tt
order_sorted rows (suc n) = insert_sorted rows n (places_of rows n) (order_sorted rows n)

insert_times : (rows : List ObjectRow) (k p : ℕ) (qs : List ℕ) → times k (insert_place rows p qs) ≡ times k (p ∷ qs)
insert_times rows k p [] = refl
insert_times rows k p (q ∷ qs) = step (is_ahead (row_at rows p) (row_at rows q)) (insert_times rows k p qs)
  where
    step : (t : Bool) → times k (insert_place rows p qs) ≡ times k (p ∷ qs) → times k (cond t (p ∷ q ∷ qs) (q ∷ insert_place rows p qs)) ≡ times k (p ∷ q ∷ qs)
    step true e = refl
    step false e = omega arith

past_none : (rows : List ObjectRow) (k n : ℕ) → n ≤ k → times k (places_of rows n) ≡ 0
past_none rows k zero h = refl
past_none rows k (suc n) h =
    let z : eqb n k ≡ false = ne_eqb n k (λ e. omega arith) in
    insert_times rows k n (places_of rows n) ∙ rw z (omega (arith, past_none rows k n (omega arith)))

-- each place below n stands there once, and no other
pub order_once : (rows : List ObjectRow) (k n : ℕ) → k < n → times k (places_of rows n) ≡ 1
order_once rows k zero h = absurd (omega arith)
order_once rows k (suc n) h =
    insert_times rows k n (places_of rows n) ∙ elim (dec_lt k n) [
      | yes l ↦ let z : eqb n k ≡ false = ne_eqb n k (λ e. omega arith) in rw z (omega (arith, order_once rows k n l))
      | no l ↦ let z : eqb n k ≡ true = eq-eqb n k (omega arith) in rw z (omega (arith, past_none rows k n (omega arith)))
    ]

-- the test, from what it says
pub of_behind : (a b : ObjectRow) → Behind a b → is_ahead a b ≡ false
of_behind a b (by_validity h) = rw (ne_eqb a.validity b.validity (λ e. omega arith)) (le-ltb a.validity b.validity (omega arith))
of_behind a b (by_cost h k) = simp (eq-eqb a.validity b.validity (sym h), ne_eqb a.cost b.cost (λ e. omega arith)) (le-ltb b.cost a.cost (omega arith))
of_behind a b (by_id h k l) = simp (eq-eqb a.validity b.validity (sym h), eq-eqb a.cost b.cost (sym k)) (le-ltb a.id b.id l)

pub same_id : {a b : ObjectRow} → Behind a b → Behind b a → a.id ≡ b.id
same_id (by_validity h) (by_validity k) = absurd (omega arith)
same_id (by_validity h) (by_cost k l) = absurd (omega arith)
same_id (by_validity h) (by_id k l m) = absurd (omega arith)
same_id (by_cost h i) (by_validity k) = absurd (omega arith)
same_id (by_cost h i) (by_cost k l) = absurd (omega arith)
same_id (by_cost h i) (by_id k l m) = absurd (omega arith)
same_id (by_id h i j) (by_validity k) = absurd (omega arith)
same_id (by_id h i j) (by_cost k l) = absurd (omega arith)
same_id (by_id h i j) (by_id k l m) = omega arith

-- a place of a sorted list is its first or behind it
at_or_behind : (rows : List ObjectRow) (p q : ℕ) (qs : List ℕ) → AllBehind rows (row_at rows q) qs → 1 ≤ times p (q ∷ qs) → (p ≡ q → ⊥) → Behind (row_at rows p) (row_at rows q)
at_or_behind rows p q qs a h n = search_in qs a (let z : eqb q p ≡ false = ne_eqb q p (λ e. n (sym e)) in rw z at h)
  where
    search_in : (xs : List ℕ) → AllBehind rows (row_at rows q) xs → 1 ≤ 0 + times p xs → Behind (row_at rows p) (row_at rows q)
    search_in [] a h = absurd (omega arith)
    search_in (x ∷ xs) a h = by_eq (ℕ_discrete x p) (λ k. search_in xs a.1 k)
      where
        by_eq : Dec (x ≡ p) → (1 ≤ 0 + times p xs → Behind (row_at rows p) (row_at rows q)) → Behind (row_at rows p) (row_at rows q)
        by_eq (yes e) f = rw e at a.0
        by_eq (no e) f = f (let z : eqb x p ≡ false = ne_eqb x p e in let k = rw z at h in omega arith)

-- two sorted lists of the same places are one, where different places have different ids
module _ (rows : List ObjectRow) (n : ℕ) (apart : (p q : ℕ) → p < n → q < n → (row_at rows p).id ≡ (row_at rows q).id → p ≡ q) where
  same_head : (p q : ℕ) (ps qs : List ℕ) → Sorted rows (p ∷ ps) → Sorted rows (q ∷ qs) → ((k : ℕ) → times k (p ∷ ps) ≡ times k (q ∷ qs)) → p < n → q < n → p ≡ q
  same_head p q ps qs s t e hp hq = by_eq (ℕ_discrete p q)
    where
      self : (x : ℕ) (xs : List ℕ) → 1 ≤ times x (x ∷ xs)
      self x xs = let z : eqb x x ≡ true = eq-eqb x x refl in rw z (omega arith)

      by_eq : Dec (p ≡ q) → p ≡ q
      by_eq (yes x) = x
      by_eq (no x) =
          let a : 1 ≤ times p (q ∷ qs) = rw (e p) at (self p ps) in
          let b : 1 ≤ times q (p ∷ ps) = rw (e q) (self q qs) in
          apart p q hp hq (same_id (at_or_behind rows p q qs t.0 a x) (at_or_behind rows q p ps s.0 b (λ y. x (sym y))))

  only : (ps qs : List ℕ) → Sorted rows ps → Sorted rows qs → ((k : ℕ) → times k ps ≡ times k qs) → Every (λ p. p < n) ps → Every (λ q. q < n) qs → ps ≡ qs
  only [] [] s t e a b = refl
  only [] (q ∷ qs) s t e a b = absurd (let z : eqb q q ≡ true = eq-eqb q q refl in let w = rw z at (e q) in omega arith)
  only (p ∷ ps) [] s t e a b = absurd (let z : eqb p p ≡ true = eq-eqb p p refl in let w = rw z at (e p) in omega arith)
  only (p ∷ ps) (q ∷ qs) s t e a b =
      let h : p ≡ q = same_head p q ps qs s t e a.0 b.0 in
      let r : (k : ℕ) → times k ps ≡ times k qs = λ k. (let x = rw h at (e k) in omega arith) in
      ap₂ (λ (x : ℕ) (xs : List ℕ). x ∷ xs) h (only ps qs s.1 t.1 r a.1 b.1)

-- ── The promises ──

-- what the planner's order holds is sorted, with each place in use once and no other
pub order_is : (rows : List ObjectRow) (n : ℕ) → Ordered rows n (take n (order_of rows n))
order_is rows n =
    let t : take n (order_of rows n) ≡ places_of rows n = take_at (places_of rows n) (replicate (64 - n) 0) n (places_length rows n) in
    rw t (record { sorted = order_sorted rows n; once = λ k h. order_once rows k n h; no_other = λ k h. past_none rows k n h })

-- and no other list of places is
pub only_order : (rows : List ObjectRow) (n : ℕ) → ((p q : ℕ) → p < n → q < n → (row_at rows p).id ≡ (row_at rows q).id → p ≡ q) → (ps : List ℕ) → Ordered rows n ps → ps ≡ take n (order_of rows n)
only_order rows n apart ps o =
    let t : take n (order_of rows n) ≡ places_of rows n = take_at (places_of rows n) (replicate (64 - n) 0) n (places_length rows n) in
    rw t (only rows n apart ps (places_of rows n) o.sorted (order_sorted rows n) times_same (below ps o.no_other) (places_below rows n))
  where
    times_same : (k : ℕ) → times k ps ≡ times k (places_of rows n)
    times_same k = elim (dec_lt k n) [
      | yes h ↦ o.once k h ∙ sym (order_once rows k n h)
      | no h ↦ o.no_other k (omega arith) ∙ sym (past_none rows k n (omega arith))
    ]

    below : (xs : List ℕ) → ((k : ℕ) → n ≤ k → times k xs ≡ 0) → Every (λ x. x < n) xs
    below [] f = tt
    below (x ∷ xs) f = (in_use (dec_lt x n), below xs (λ k h. (let z = f k h in omega arith)))
      where
        in_use : Dec (x < n) → x < n
        in_use (yes h) = h
        in_use (no h) = absurd (let z : eqb x x ≡ true = eq-eqb x x refl in let w = rw z at (f x (omega arith)) in omega arith)
