-- The classic plan beside ours: a table that fits Half-Half is never refused by More-Less with 10, and no More-Less deadline there is above the
-- Half-Half one (document 000, Theorem 3.4; document 002, Theorem 1). Assumes nothing.
use Rattle.std.specs.Prelude.{ℕ, ◌-◌, ◌*◌, ◌/◌, ◌≤◌, ◌≡◌, refl, List, [], ◌∷◌, ◌++◌, length, replicate}
use Rattle.std.proofs.Common.{sym, ap, ◌∙◌, arith, mul-le-mul_right}
use Rattle.std.proofs.Math.Option.{Option, none, some}
use Rattle.std.proofs.Math.Seq.{take-append_seam}
use Rattle.rules.specs.declared.ObjectRow.{ObjectRow}
use Rattle.rules.specs.declared.PlanRow.{PlanRow}
use Rattle.rules.specs.Answers.{Planned, Verdict, Accepted, Refused}
use Rattle.rules.specs.declared.Table.{Table}
use Rattle.rules.specs.declared.Refusal.TheVariants.{NoDeadline}
use Rattle.rules.specs.StoredTable.{count_verdict, rows_in, checks_from, table_verdict}
use Rattle.rules.specs.Order.{in_order}
use Rattle.rules.specs.Deadlines.{ceiling, brings, window_of, own_of, need_of, smallest_within, plan_row, no_plan_row, refused_plan, planned_rows}
use Rattle.rules.specs.Deadlines.{where_found, plan_by, plan_from, plan_of}
use Rattle.rules.specs.HalfHalf.{half_row, classic_of}
use Rattle.rules.specs.Refusals.{◌at_place◌, told}
use Rattle.rules.proofs.Told.{told_settles}
use Rattle.rules.proofs.Lists.{Every}
use Rattle.rules.proofs.Checks.{Ranged, both_accept}
use Rattle.promises.proofs.Plans.{ordered_ranged}
use Rattle.rules.proofs.Balance.{window_grows, found, ceiling_down, found_below}
use Rattle.promises.specs.Classic.{NoWorse, AllNoWorse}

more : (ms hs : List PlanRow) (m h : PlanRow) → AllNoWorse ms hs → NoWorse m h → AllNoWorse (ms ++ (m ∷ [])) (hs ++ (h ∷ []))
more [] [] m h a n = (n, tt)
more [] (y ∷ hs) m h a n = elim a [ ]
more (x ∷ ms) [] m h a n = elim a [ ]
more (x ∷ ms) (y ∷ hs) m h a n = (a.0, more ms hs m h a.1 n)

-- the work that they bring is no more
brings_less : (ms hs : List PlanRow) (t : ℕ) → AllNoWorse ms hs → window_of ms t ≤ window_of hs t
brings_less [] [] t a = omega arith
brings_less [] (h ∷ hs) t a = elim a [ ]
brings_less (m ∷ ms) [] t a = elim a [ ]
brings_less (m ∷ ms) (h ∷ hs) t a =
    let n = a.0 in
    let b : ceiling t m.period * m.cost ≤ ceiling t h.period * m.cost = mul-le-mul_right m.cost (ceiling_down t m.period h.period n.some_period n.longer) in
    let c : ceiling t h.period * m.cost ≡ brings t h = ap (λ (k : ℕ). ceiling t h.period * k) n.same_cost in
    omega (arith, b, c, brings_less ms hs t a.1)

-- so what balances there is enough here: there is a deadline, and it is no later
deadline_below : (ms hs : List PlanRow) (r : ObjectRow) (rs : List ObjectRow) (t : ℕ) → AllNoWorse ms hs → (2 ≤ r.validity → Ranged r)
    → smallest_within hs (own_of r rs) (r.validity / 2) ≡ some t
    → (d : ℕ) × (smallest_within ms (own_of r rs) (r.validity / 2) ≡ some d) × (1 ≤ t) × (d ≤ t) × (t ≤ r.validity / 2)
deadline_below ms hs r rs t a c e =
    let half = r.validity / 2 in
    let f = found (need_of hs (own_of r rs)) half 1 t e in
    let some_cost : 1 ≤ r.cost = (c (omega (arith, f.from, f.below))).cost_from in
    let low : need_of ms (own_of r rs) t ≤ t = omega (arith, f.fixed, brings_less ms hs t a) in
    let within : t ≤ half = omega (arith, f.below) in
    let grows : (s u : ℕ) → s ≤ u → need_of ms (own_of r rs) s ≤ need_of ms (own_of r rs) u = λ s u l. omega (arith, window_grows ms l) in
    let d = found_below (need_of ms (own_of r rs)) grows (λ s. omega (arith, some_cost)) half t f.from within low in
    (d.0, d.1, f.from, d.2, within)

-- ── The rows in priority order ──

-- both plans, the rows ahead of `rs` being planned
abbrev Both : List PlanRow → List PlanRow → List ObjectRow → Type 0
Both ms hs rs = ((plan_from ms rs).verdict ≡ Accepted) × AllNoWorse (planned_rows (plan_from ms rs).plan) (planned_rows (plan_by half_row hs rs).plan)

both_fit : (ms hs : List PlanRow) (rs : List ObjectRow) → AllNoWorse ms hs → Every (λ r. 2 ≤ r.validity → Ranged r) rs
    → (plan_by half_row hs rs).verdict ≡ Accepted → Both ms hs rs
both_fit ms hs [] a g e =
    (refl, rw (take-append_seam ms (replicate (64 - length ms) no_plan_row), take-append_seam hs (replicate (64 - length hs) no_plan_row)) a)
both_fit ms hs (r ∷ rs) a g e =
    by_classic (smallest_within hs (own_of r rs) (r.validity / 2)) refl e
    (λ d t n. both_fit (ms ++ (plan_row r d ∷ [])) (hs ++ (half_row r t ∷ [])) rs (more ms hs (plan_row r d) (half_row r t) a n) g.1)
  where
    Next : Type 0
    Next = (d t : ℕ) → NoWorse (plan_row r d) (half_row r t) → (plan_by half_row (hs ++ (half_row r t ∷ [])) rs).verdict ≡ Accepted
        → Both (ms ++ (plan_row r d ∷ [])) (hs ++ (half_row r t ∷ [])) rs

    by_classic : (o : Option ℕ) → smallest_within hs (own_of r rs) (r.validity / 2) ≡ o
        → (where_found o (λ t. plan_by half_row (hs ++ (half_row r t ∷ [])) rs) (refused_plan NoDeadline (length hs))).verdict ≡ Accepted
        → Next → Both ms hs (r ∷ rs)
    by_classic none q e next = let z : ◌≡◌ {A = ℕ} 0 1 = cc in absurd (omega arith)
    by_classic (some t) q e next =
        let b = deadline_below ms hs r rs t a g.0 q in
        let n : NoWorse (plan_row r b.0) (half_row r t) = record {
          same_cost = refl;
          longer = omega (arith, b.3, b.4);
          some_period = omega (arith, b.2, b.4);
          sooner = omega (arith, b.3, b.4);
        } in
        rw (b.1, q) (next b.0 t n e)

-- ── The promise ──

-- a table that fits Half-Half is planned by More-Less too, and row by row the period is no shorter and the deadline no later
pub fits_both : (table : Table) → told (classic_of table).verdict ≡ 0 at_place 0
    → (told (plan_of table).verdict ≡ 0 at_place 0) × AllNoWorse (planned_rows (plan_of table).plan) (planned_rows (classic_of table).plan)
fits_both table told_none = let both = by_verdict (table_verdict table) refl in (ap told both.0, both.1)
  where
    rows : List ObjectRow
    rows = in_order table.rows table.count

    e : (classic_of table).verdict ≡ Accepted
    e = told_settles (classic_of table).verdict Accepted told_none

    by_verdict : (v : Verdict) → table_verdict table ≡ v → ((plan_of table).verdict ≡ Accepted) × AllNoWorse (planned_rows (plan_of table).plan) (planned_rows (classic_of table).plan)
    by_verdict (Refused r k) w = let z : ◌≡◌ {A = ℕ} 0 1 = cc (w, e) in absurd (omega arith)
    by_verdict Accepted w =
        let c : classic_of table ≡ plan_by half_row [] rows = rw w in
        let p : plan_of table ≡ plan_from [] rows = rw w in
        let checked = (both_accept (count_verdict table.count) (checks_from 0 [] (rows_in table)) w).1 in
        let ranged = ordered_ranged table.rows table.count checked in
        rw (c, p) (both_fit [] [] rows tt ranged (ap (λ (x : Planned). x.verdict) (sym c) ∙ e))
