-- The plan does not depend on the order of the records: tables whose records are the same in another order have the same plan.
-- Assumes nothing.
use Rattle.std.specs.Prelude.{ℕ, zero, suc, ◌+◌, ◌≤◌, ◌≡◌, refl, Bool, true, false, cond, List, [], ◌∷◌, ◌++◌, length, get_or, take}
use Rattle.std.proofs.Common.{sym, ap, ap₂, ◌∙◌, true≢false, arith, le-leb, take-suc, length-take-le, get_or-take}
use Rattle.rules.specs.declared.ObjectRow.{ObjectRow}
use Rattle.rules.specs.declared.Table.{Table}
use Rattle.rules.specs.Answers.{Accepted}
use Rattle.rules.specs.StoredTable.{no_row, rows_in, has_id, checks_from, count_verdict, table_verdict}
use Rattle.rules.specs.Order.{is_ahead, row_at, rows_at, insert_place, places_of, in_order}
use Rattle.rules.specs.Deadlines.{plan_of}
use Rattle.rules.proofs.Lists.{Every, every_more}
use Rattle.rules.proofs.Checks.{Ranged, first_passed, all_ranged, both_accept, count_in, count_said, has_before, has_more}
use Rattle.promises.proofs.OnlyOrder.{behind_trans, test_false, test_true, of_behind, same_id}
use Rattle.promises.specs.AnyRecordOrder.{Perm, Distinct, Sized}
use Rattle.promises.specs.AnyRecordOrder.Perm.{none, skip, swap, then}

-- of two rows with different ids one goes ahead, and not both
not_both : (a b : ObjectRow) → is_ahead a b ≡ true → is_ahead b a ≡ true → ⊥
not_both a b p q = true≢false (sym q ∙ of_behind b a (test_true a b p))

one : (a b : ObjectRow) → (a.id ≡ b.id → ⊥) → is_ahead a b ≡ false → is_ahead b a ≡ false → ⊥
one a b d p q = d (same_id (test_false a b p) (test_false b a q))

ahead_trans : (a b c : ObjectRow) → is_ahead a b ≡ true → is_ahead b c ≡ true → is_ahead a c ≡ false → ⊥
ahead_trans a b c p q r = true≢false (sym p ∙ of_behind a b (behind_trans (test_false a c r) (test_true b c q)))

abbrev insert_row : ObjectRow → List ObjectRow → List ObjectRow
insert_row r [] = r ∷ []
insert_row r (q ∷ qs) = cond (is_ahead r q) (r ∷ q ∷ qs) (q ∷ insert_row r qs)

comm : (a b : ObjectRow) → (a.id ≡ b.id → ⊥) → (xs : List ObjectRow) → insert_row a (insert_row b xs) ≡ insert_row b (insert_row a xs)
comm a b d [] = go (is_ahead a b) (is_ahead b a) refl refl
  where
    go : (s t : Bool) → is_ahead a b ≡ s → is_ahead b a ≡ t → cond s (a ∷ b ∷ []) (b ∷ a ∷ []) ≡ cond t (b ∷ a ∷ []) (a ∷ b ∷ [])
    go true true p q = absurd (not_both a b p q)
    go true false p q = refl
    go false true p q = refl
    go false false p q = absurd (one a b d p q)
comm a b d (q ∷ qs) = go (is_ahead a q) (is_ahead b q) (is_ahead a b) (is_ahead b a) refl refl refl refl (comm a b d qs)
  where
    go : (u v s t : Bool) → is_ahead a q ≡ u → is_ahead b q ≡ v → is_ahead a b ≡ s → is_ahead b a ≡ t → insert_row a (insert_row b qs) ≡ insert_row b (insert_row a qs)
        → insert_row a (cond v (b ∷ q ∷ qs) (q ∷ insert_row b qs)) ≡ insert_row b (cond u (a ∷ q ∷ qs) (q ∷ insert_row a qs))
    go true true true true e f g h i = absurd (not_both a b g h)
    go true true true false e f g h i = simp (e, f, g, h)
    go true true false true e f g h i = simp (e, f, g, h)
    go true true false false e f g h i = absurd (one a b d g h)
    go true false true true e f g h i = absurd (not_both a b g h)
    go true false true false e f g h i = simp (e, f, h)
    go true false false true e f g h i = absurd (ahead_trans b a q h e f)
    go true false false false e f g h i = absurd (one a b d g h)
    go false true true true e f g h i = absurd (not_both a b g h)
    go false true true false e f g h i = absurd (ahead_trans a b q g f e)
    go false true false true e f g h i = simp (e, f, g)
    go false true false false e f g h i = absurd (one a b d g h)
    go false false s t e f g h i = simp (e, f) (ap (λ (l : List ObjectRow). q ∷ l) i)

-- the rows put in order
abbrev sort_rows : List ObjectRow → List ObjectRow
sort_rows [] = []
sort_rows (r ∷ rs) = insert_row r (sort_rows rs)

perm_every : (P : ObjectRow → Type 0) {xs ys : List ObjectRow} → Perm xs ys → Every P xs → Every P ys
perm_every P none o = tt
perm_every P (skip x p) o = (o.0, perm_every P p o.1)
perm_every P (swap x y xs) o = (o.1.0, (o.0, o.1.1))
perm_every P (then p q) o = perm_every P q (perm_every P p o)

perm_distinct : {xs ys : List ObjectRow} → Perm xs ys → Distinct xs → Distinct ys
perm_distinct none d = tt
perm_distinct (skip x p) d = (perm_every (λ y. x.id ≡ y.id → ⊥) p d.0, perm_distinct p d.1)
perm_distinct (swap x y xs) d = ((λ e. d.0.0 (sym e), d.1.0), (d.0.1, d.1.1))
perm_distinct (then p q) d = perm_distinct q (perm_distinct p d)

same_order : {xs ys : List ObjectRow} → Perm xs ys → Distinct xs → sort_rows xs ≡ sort_rows ys
same_order none d = refl
same_order (skip x p) d = ap (insert_row x) (same_order p d.1)
same_order (swap x y xs) d = comm x y d.0.0 (sort_rows xs)
same_order (then p q) d = same_order p d ∙ same_order q (perm_distinct p d)

-- the rows at the places that `places_of` gives are those rows in order
abbrev backwards : List ObjectRow → ℕ → List ObjectRow
backwards rows zero = []
backwards rows (suc n) = row_at rows n ∷ backwards rows n

insert_rows : (rows : List ObjectRow) (p : ℕ) (qs : List ℕ) → rows_at rows (insert_place rows p qs) ≡ insert_row (row_at rows p) (rows_at rows qs)
insert_rows rows p [] = refl
insert_rows rows p (q ∷ qs) = go (is_ahead (row_at rows p) (row_at rows q)) (insert_rows rows p qs)
  where
    go : (t : Bool) → rows_at rows (insert_place rows p qs) ≡ insert_row (row_at rows p) (rows_at rows qs)
        → rows_at rows (cond t (p ∷ q ∷ qs) (q ∷ insert_place rows p qs)) ≡ cond t (row_at rows p ∷ row_at rows q ∷ rows_at rows qs) (row_at rows q ∷ insert_row (row_at rows p) (rows_at rows qs))
    go true e = refl
    go false e = ap (λ (l : List ObjectRow). row_at rows q ∷ l) e

order_rows : (rows : List ObjectRow) (n : ℕ) → in_order rows n ≡ sort_rows (backwards rows n)
order_rows rows zero = refl
order_rows rows (suc n) = insert_rows rows n (places_of rows n) ∙ ap (insert_row (row_at rows n)) (order_rows rows n)

-- only the first n rows are read
backwards_reads : (rows rows' : List ObjectRow) (n m : ℕ) → m ≤ n → take n rows ≡ take n rows' → backwards rows m ≡ backwards rows' m
backwards_reads rows rows' n zero h e = refl
backwards_reads rows rows' n (suc m) h e =
    let a : row_at rows m ≡ row_at rows' m = sym (get_or-take n rows m no_row h) ∙ (ap (λ (l : List ObjectRow). get_or l m no_row) e ∙ get_or-take n rows' m no_row h) in
    ap₂ (λ (x : ObjectRow) (xs : List ObjectRow). x ∷ xs) a (backwards_reads rows rows' n m (omega arith) e)

-- ── Backwards is a permutation ──

perm_same : (xs : List ObjectRow) → Perm xs xs
perm_same [] = none
perm_same (x ∷ xs) = skip x (perm_same xs)

perm_back : {xs ys : List ObjectRow} → Perm xs ys → Perm ys xs
perm_back none = none
perm_back (skip x p) = skip x (perm_back p)
perm_back (swap x y xs) = swap y x xs
perm_back (then p q) = then (perm_back q) (perm_back p)

-- the last of a list in front
perm_last : (xs : List ObjectRow) (y : ObjectRow) → Perm (xs ++ (y ∷ [])) (y ∷ xs)
perm_last [] y = perm_same (y ∷ [])
perm_last (x ∷ xs) y = then (skip x (perm_last xs y)) (swap x y xs)

perm_backwards : (rows : List ObjectRow) (n : ℕ) → n ≤ length rows → Perm (take n rows) (backwards rows n)
perm_backwards rows zero h = none
perm_backwards rows (suc n) h =
    let e : take (suc n) rows ≡ take n rows ++ (row_at rows n ∷ []) = take-suc rows n no_row h in
    rw e (then (perm_last (take n rows) (row_at rows n)) (skip (row_at rows n) (perm_backwards rows n (omega arith))))

-- ── Well-formed rows stay so in another order ──

-- the checks pass exactly if each row is in its ranges and no id comes twice
pub checks_apart : (at : ℕ) (seen rs : List ObjectRow) → checks_from at seen rs ≡ Accepted
    → Every (λ r. has_id r.id seen ≡ false) rs × Distinct rs
checks_apart at seen [] e = (tt, tt)
checks_apart at seen (r ∷ rs) e =
    let f = first_passed at seen r rs e in
    let ih = checks_apart (at + 1) (seen ++ r ∷ []) rs f.others in
    ((f.new_id, every_more (λ x h. (has_before x.id seen r h).0) rs ih.0), (every_more (λ x h. (has_before x.id seen r h).1) rs ih.0, ih.1))

apart_checks : (at : ℕ) (seen rs : List ObjectRow) → Every Ranged rs → Every (λ r. has_id r.id seen ≡ false) rs → Distinct rs
    → checks_from at seen rs ≡ Accepted
apart_checks at seen [] g n d = refl
apart_checks at seen (r ∷ rs) g n d =
    let ih = apart_checks (at + 1) (seen ++ r ∷ []) rs g.1 (both seen r rs n.1 d.0) d.1 in
    simp (
      le-leb 1 r.cost g.0.cost_from,
      le-leb r.cost 1000000 g.0.cost_to,
      le-leb 1 r.hold g.0.hold_from,
      le-leb r.hold r.cost g.0.hold_cost,
      le-leb r.hold 65536 g.0.hold_to,
      le-leb 2 r.validity g.0.validity_from,
      le-leb r.validity 1000000 g.0.validity_to,
      n.0,
    ) ih
  where
    both : (seen : List ObjectRow) (r : ObjectRow) (xs : List ObjectRow) → Every (λ x. has_id x.id seen ≡ false) xs → Every (λ x. r.id ≡ x.id → ⊥) xs → Every (λ x. has_id x.id (seen ++ r ∷ []) ≡ false) xs
    both seen r [] a b = tt
    both seen r (x ∷ xs) a b = (has_more x.id seen r a.0 b.0, both seen r xs a.1 b.1)

-- ── The promise ──

perm_length : {xs ys : List ObjectRow} → Perm xs ys → length xs ≡ length ys
perm_length none = refl
perm_length (skip x p) = ap suc (perm_length p)
perm_length (swap x y xs) = refl
perm_length (then p q) = perm_length p ∙ perm_length q

module _ (t t' : Table) (size : Sized t) (size' : Sized t') (well_formed : table_verdict t ≡ Accepted) (few : t'.count ≤ 64) (same : Perm (rows_in t) (rows_in t')) where
  limits : (1 ≤ t.count) × (t.count ≤ 64)
  limits = count_said t.count (both_accept (count_verdict t.count) _ well_formed).0

  checked : checks_from 0 [] (rows_in t) ≡ Accepted
  checked = (both_accept (count_verdict t.count) _ well_formed).1

  counts : t.count ≡ t'.count
  counts = sym (length-take-le t.count t.rows (omega (arith, limits.1))) ∙ (perm_length same ∙ length-take-le t'.count t'.rows (omega arith))

  -- the other table is well-formed too
  pub still_formed : table_verdict t' ≡ Accepted
  still_formed =
      let l : 1 ≤ t'.count = omega (arith, limits.0, counts) in
      let apart = checks_apart 0 [] (rows_in t) checked in
      let c : checks_from 0 [] (rows_in t') ≡ Accepted =
      apart_checks 0 [] (rows_in t') (perm_every Ranged same (all_ranged 0 [] (rows_in t) checked))
      (perm_every (λ r. has_id r.id [] ≡ false) same apart.0) (perm_distinct same apart.1) in
      rw (count_in t'.count l few) c

  -- and it has the same plan
  pub same_records : plan_of t ≡ plan_of t'
  same_records =
      let p : Perm (rows_in t) (backwards t.rows t.count) = perm_backwards t.rows t.count (omega (arith, limits.1)) in
      let p' : Perm (rows_in t') (backwards t'.rows t'.count) = perm_backwards t'.rows t'.count (omega arith) in
      let o : sort_rows (backwards t.rows t.count) ≡ sort_rows (backwards t'.rows t'.count) =
      same_order (then (perm_back p) (then same p')) (perm_distinct p (checks_apart 0 [] (rows_in t) checked).1) in
      rw (well_formed, still_formed, order_rows t.rows t.count, order_rows t'.rows t'.count, o)

-- rows beyond the count are not read: tables that differ only there have the same plan, or the same refusal
pub beyond_unread : (t t' : Table) → t.count ≡ t'.count → rows_in t ≡ rows_in t' → plan_of t ≡ plan_of t'
beyond_unread t t' c e =
    let n = t.count in
    let f : take n t.rows ≡ take n t'.rows = rw (← c) at e in
    let o : in_order t.rows n ≡ in_order t'.rows n = order_rows t.rows n ∙ (ap sort_rows (backwards_reads t.rows t'.rows n n (omega arith) f) ∙ sym (order_rows t'.rows n)) in
    rw (← c, f, o)
