-- What the planner gives: of each row a deadline that balances within half the validity, and a period of validity minus deadline.
-- Assumes nothing.
use Rattle.std.specs.Prelude.{ℕ, zero, suc, ◌≤◌, ◌<◌, ◌≡◌, refl, ◌≢◌, Bool, true, false, cond, List, [], ◌∷◌, ◌++◌, map, length, take, drop, get_or}
use Rattle.std.proofs.Common.{ap, sym, ◌∙◌, append_assoc, append-nil, arith, length-take, get_or-take, ne_eqb, le-leb}
use Rattle.std.proofs.Math.Decide.{dec_lt}
use Rattle.std.proofs.lemmas.List.{length-map}
use Rattle.std.proofs.Math.ListN.{get_or-eq_default}
use Rattle.rules.specs.declared.ObjectRow.{ObjectRow}
use Rattle.rules.specs.declared.PlanRow.{PlanRow}
use Rattle.rules.specs.Answers.{Planned, Verdict, Accepted, Refused}
use Rattle.rules.specs.declared.Table.{Table}
use Rattle.rules.specs.StoredTable.{no_row, rows_in, hold_ok, count_verdict, checks_from, table_verdict}
use Rattle.rules.specs.Order.{is_ahead, row_at, rows_at, insert_place, places_of, in_order}
use Rattle.rules.specs.Deadlines.{own_of, need_of, plan_row, no_plan_row, on_accepted, plan_from, plan_of, planned_rows}
use Rattle.rules.specs.RunState.{not_in, distinct}
use Rattle.rules.proofs.Lists.{Every, Pairwise, every_more, every_at, pairwise_at}
use Rattle.rules.proofs.Places.{insert_every, places_below, in_order_length}
use Rattle.rules.proofs.Checks.{Ranged, all_ranged, both_accept, count_said, refused_not}
use Rattle.promises.proofs.AnyRecordOrder.{checks_apart}
use Rattle.promises.specs.Exactly.{PlannedAs}
use Rattle.promises.specs.Exactly.PlannedAs.{done, next}
use Rattle.promises.proofs.SamePlan.{planned_as}
use Rattle.promises.specs.Plans.{unplanned, PlannedRow, PlanRows}

-- ── The order: each place once ──

insert_apart : (rows : List ObjectRow) (p : ℕ) (qs : List ℕ) → Every (λ q. p ≢ q) qs → Pairwise (λ x y. x ≢ y) qs → Pairwise (λ x y. x ≢ y) (insert_place rows p qs)
insert_apart rows p [] h a = (tt, tt)
insert_apart rows p (q ∷ qs) h a = go (is_ahead (row_at rows p) (row_at rows q)) (insert_apart rows p qs h.1 a.1)
  where
    go : (t : Bool) → Pairwise (λ x y. x ≢ y) (insert_place rows p qs) → Pairwise (λ x y. x ≢ y) (cond t (p ∷ q ∷ qs) (q ∷ insert_place rows p qs))
    go true e = (h, a)
    go false e = (insert_every (λ y. q ≢ y) rows p qs (λ e. h.0 (sym e)) a.0, e)

pub places_apart : (rows : List ObjectRow) (n : ℕ) → Pairwise (λ x y. x ≢ y) (places_of rows n)
places_apart rows zero = tt
places_apart rows (suc n) = insert_apart rows n (places_of rows n) (every_more (λ x h e. omega arith) (places_of rows n) (places_below rows n)) (places_apart rows n)

rows_every : (P : ObjectRow → Type 0) (rows : List ObjectRow) (n : ℕ) → ((p : ℕ) → p < n → P (row_at rows p)) → (ps : List ℕ) → Every (λ p. p < n) ps → Every P (rows_at rows ps)
rows_every P rows n f [] a = tt
rows_every P rows n f (p ∷ ps) a = (f p a.0, rows_every P rows n f ps a.1)

rows_pairwise : (R : ObjectRow → ObjectRow → Type 0) (rows : List ObjectRow) (n : ℕ) → ((p q : ℕ) → p < n → q < n → p ≢ q → R (row_at rows p) (row_at rows q))
    → (ps : List ℕ) → Every (λ p. p < n) ps → Pairwise (λ x y. x ≢ y) ps → Pairwise R (rows_at rows ps)
rows_pairwise R rows n f [] a b = tt
rows_pairwise R rows n f (p ∷ ps) a b = (one ps a.1 b.0, rows_pairwise R rows n f ps a.1 b.1)
  where
    one : (qs : List ℕ) → Every (λ q. q < n) qs → Every (λ q. p ≢ q) qs → Every (R (row_at rows p)) (rows_at rows qs)
    one [] c d = tt
    one (q ∷ qs) c d = (f p q a.0 c.0 d.0, one qs c.1 d.1)

-- ── The rows at the places of a table, so far as they go ──

module _ (rows : List ObjectRow) (n : ℕ) (ok : checks_from 0 [] (take n rows) ≡ Accepted) where
  inside : (p : ℕ) → p < n → p < length rows → p < length (take n rows)
  inside p h l = simp length-take (omega arith)

  ranged_at : (p : ℕ) → p < n → p < length rows → Ranged (row_at rows p)
  ranged_at p h l =
      rw (get_or-take n rows p no_row h) at (every_at Ranged no_row (take n rows) (all_ranged 0 [] (take n rows) ok) p (inside p h l))

  apart_at : (p q : ℕ) → p < q → q < n → q < length rows → (row_at rows p).id ≢ (row_at rows q).id
  apart_at p q d h l =
      rw (get_or-take n rows p no_row (omega arith), get_or-take n rows q no_row h)
      at (pairwise_at (λ (x y : ObjectRow). x.id ≢ y.id) no_row (take n rows) (checks_apart 0 [] (take n rows) ok).1 p q d (inside q h l))

  -- a row that has a deadline has a validity of 2 at least, so it is no row beyond the table's
  there : (p : ℕ) → 2 ≤ (row_at rows p).validity → p < length rows
  there p v = elim (dec_lt p (length rows)) [
    | yes l ↦ l
    | no l ↦ (let e : row_at rows p ≡ no_row = get_or-eq_default rows no_row (omega arith) in let z : (row_at rows p).validity ≡ 0 = ap (λ (r : ObjectRow). r.validity) e in absurd (omega arith))
  ]

  pub ordered_ranged : Every (λ r. 2 ≤ r.validity → Ranged r) (in_order rows n)
  ordered_ranged = rows_every (λ r. 2 ≤ r.validity → Ranged r) rows n (λ p h v. ranged_at p h (there p v)) (places_of rows n) (places_below rows n)

  ordered_apart : Pairwise (λ x y. 2 ≤ x.validity → 2 ≤ y.validity → x.id ≢ y.id) (in_order rows n)
  ordered_apart =
      rows_pairwise (λ x y. 2 ≤ x.validity → 2 ≤ y.validity → x.id ≢ y.id) rows n
      (λ p q h k d v w.
      elim (dec_lt p q) [
        | yes l ↦ apart_at p q l k (there q w)
        | no l ↦ (λ e. apart_at q p (omega arith) h (there p v) (sym e))
      ])
      (places_of rows n) (places_below rows n) (places_apart rows n)

-- ── The plan, one row after the other ──

-- the rows that they are the plan of
pub as_rows_of : (rs : List ObjectRow) {ahead ps : List PlanRow} → PlannedAs (length rs) ahead rs ps → map unplanned ps ≡ rs
as_rows_of [] done = refl
as_rows_of (r ∷ rs) (next t d p) = ap (λ (l : List ObjectRow). r ∷ l) (as_rows_of rs p)

ranged_hold : (r : ObjectRow) → Ranged r → hold_ok r.cost r.hold ≡ true
ranged_hold r g =
    rw (le-leb 1 r.hold g.hold_from, le-leb r.hold r.cost g.hold_cost, le-leb r.hold 65536 g.hold_to)

-- each of them is planned between those ahead of it and those behind it
as_rows : (rs : List ObjectRow) {ahead ps : List PlanRow} → PlannedAs (length rs) ahead rs ps → Every (λ r. 2 ≤ r.validity → Ranged r) rs
    → (i : ℕ) → i < length ps → PlannedRow (ahead ++ take i ps) (drop (suc i) ps) (get_or ps i no_plan_row)
as_rows [] done a i h = absurd (omega arith)
as_rows (r ∷ rs) (next {ahead = ahead} {plans = ps} t k b) a zero h =
    let g = a.0 (omega (arith, k.one, k.half)) in
    let balances : need_of ahead (own_of r (map unplanned ps)) t ≡ t = rw (as_rows_of rs b) (sym k.balances) in
    rw (append-nil ahead) (record {
      cost_pos = g.cost_from;
      hold_ok = ranged_hold r g;
      balances = balances;
      half = k.half;
      period_is = refl;
      small = g.validity_to;
    })
as_rows (r ∷ rs) (next {ahead = ahead} {plans = ps} t k b) a (suc i) h =
    rw (append_assoc ahead (plan_row r t ∷ []) (take i ps)) at (as_rows rs b a.1 i (omega arith))

-- and their ids differ
other_ids : {k : ℕ} {ahead : List PlanRow} {rs : List ObjectRow} {ps : List PlanRow} (x : ObjectRow) → 2 ≤ x.validity
    → PlannedAs k ahead rs ps → Every (λ y. 2 ≤ x.validity → 2 ≤ y.validity → x.id ≢ y.id) rs
    → not_in x.id (map (λ (p : PlanRow). p.id) ps) ≡ true
unfolding not_in
other_ids x v done a = refl
other_ids x v (next {r = r} t k b) a = rw (ne_eqb x.id r.id (a.0 v (omega (arith, k.one, k.half)))) (other_ids x v b a.1)

as_ids : {k : ℕ} {ahead : List PlanRow} {rs : List ObjectRow} {ps : List PlanRow} → PlannedAs k ahead rs ps
    → Pairwise (λ x y. 2 ≤ x.validity → 2 ≤ y.validity → x.id ≢ y.id) rs → distinct (map (λ (p : PlanRow). p.id) ps) ≡ true
unfolding distinct
as_ids done a = refl
as_ids (next {r = r} t k b) a = rw (other_ids r (omega (arith, k.one, k.half)) b a.0) (as_ids b a.1)

-- ── The theorem ──

-- a planned table is well-formed
formed : (v : Verdict) (p : Planned) → (on_accepted v p).verdict ≡ Accepted → v ≡ Accepted
formed Accepted p e = refl
formed (Refused r k) p e = absurd (refused_not e)

-- and has a planned row for each object
pub plans_count : (table : Table) → (plan_of table).verdict ≡ Accepted → length (planned_rows (plan_of table).plan) ≡ table.count
plans_count table e =
    let rows = in_order table.rows table.count in
    sym (length-map (planned_rows (plan_of table).plan) unplanned)
    ∙ (ap length (as_rows_of rows (planned_as table e)) ∙ in_order_length table.rows table.count)

pub plan_rows : (table : Table) → (plan_of table).verdict ≡ Accepted → PlanRows (planned_rows (plan_of table).plan)
plan_rows table e =
    let rows = table.rows in
    let n = table.count in
    let well_formed = formed (table_verdict table) (plan_from [] (in_order rows n)) e in
    let c = both_accept (count_verdict n) (checks_from 0 [] (rows_in table)) well_formed in
    let count = count_said n c.0 in
    let b = planned_as table e in
    let l = plans_count table e in
    record {
      count_pos = omega arith;
      count_le = omega arith;
      ids_differ = as_ids b (ordered_apart rows n c.1);
      rows = as_rows (in_order rows n) b (ordered_ranged rows n c.1);
    }
