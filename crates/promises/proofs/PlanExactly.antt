-- Demand 2 on the plan of any table: each deadline is the smallest number of slots that covers, and 10 has no other ground than an object
-- without one. Assumes nothing.
use Rattle.std.specs.Prelude.{ℕ, zero, suc, ◌+◌, ◌≤◌, ◌<◌, ◌≡◌, refl, ◌↔◌, ◌⊎◌, Bool, true, false, not, ◌&&◌, List, [], ◌∷◌, ◌++◌, leb, take, drop, get_or}
use Rattle.std.proofs.Common.{sym, ap, ◌∙◌, inl, inr, append_assoc, append-nil, arith}
use Rattle.rules.specs.declared.ObjectRow.{ObjectRow}
use Rattle.rules.specs.declared.PlanRow.{PlanRow}
use Rattle.rules.specs.Answers.{Planned, Verdict, Accepted, Refused}
use Rattle.rules.specs.declared.Table.{Table}
use Rattle.rules.specs.declared.Refusal.{Refusal}
use Rattle.rules.specs.declared.Refusal.TheVariants.{CountRange, HoldRange, CostRange, ValidityRange, IdRepeated, NoDeadline}
use Rattle.rules.specs.Refusals.{◌at_place◌, told, must, first_refusal}
use Rattle.rules.specs.StoredTable.{no_row, rows_in, in_range, hold_ok, has_id, checks_from, count_verdict, row_verdict, table_verdict}
use Rattle.rules.specs.Deadlines.{plan_row, no_plan_row, plan_of}
use Rattle.rules.proofs.Lists.{Every}
use Rattle.rules.proofs.Places.{in_order_length}
use Rattle.rules.proofs.Checks.{Ranged, both_accept, refused_not}
use Rattle.rules.proofs.Told.{told_settles}
use Rattle.promises.specs.Exactly.{PlannedAs, FirstWithout}
use Rattle.promises.proofs.Exactly.{refused_exactly, planned_or_refused, ill_formed}
use Rattle.promises.specs.Exactly.PlannedAs.{done, next}
use Rattle.promises.proofs.Covers.{deadline_covers}
use Rattle.promises.proofs.SamePlan.{planned_as}
use Rattle.promises.proofs.Plans.{ordered_ranged}
use Rattle.promises.specs.PlanExactly.{ordered, plans_in, PlannedBetween}

-- ── Each deadline ──

planned_between : {k : ℕ} {ahead : List PlanRow} {rs : List ObjectRow} {ps : List PlanRow} → PlannedAs k ahead rs ps
    → Every (λ r. 2 ≤ r.validity → Ranged r) rs → (i : ℕ) → i < k
    → PlannedBetween (ahead ++ take i ps) (get_or rs i no_row) (drop (suc i) rs) (get_or ps i no_plan_row)
planned_between done a i h = absurd (omega arith)
planned_between (next {ahead = ahead} {r = r} {rs = rs} t k b) a zero h =
    let some_cost = (a.0 (omega (arith, k.one, k.half))).cost_from in
    rw (append-nil ahead) (record { deadline = (deadline_covers ahead r rs some_cost t).0 k; others = refl })
planned_between (next {ahead = ahead} {r = r} {plans = ps} t k b) a (suc i) h =
    rw (append_assoc ahead (plan_row r t ∷ []) (take i ps)) at (planned_between b a.1 i (omega arith))

-- the table's own checks accept a table that is planned
pub planned_formed : (table : Table) → (plan_of table).verdict ≡ Accepted → table_verdict table ≡ Accepted
planned_formed table e = by_verdict (table_verdict table) refl
  where
    by_verdict : (v : Verdict) → table_verdict table ≡ v → v ≡ Accepted
    by_verdict Accepted w = refl
    by_verdict (Refused r k) w = absurd (refused_not (sym (ap (λ (x : Planned). x.verdict) (ill_formed table r k w)) ∙ e))

-- each object of a planned table, in priority order
pub each_planned : (table : Table) → (plan_of table).verdict ≡ Accepted → (i : ℕ) → i < table.count
    → PlannedBetween (take i (plans_in table)) (get_or (ordered table) i no_row) (drop (suc i) (ordered table))
    (get_or (plans_in table) i no_plan_row)
each_planned table e i h =
    let ok = (both_accept (count_verdict table.count) _ (planned_formed table e)).1 in
    planned_between (planned_as table e) (ordered_ranged table.rows table.count ok) i
    (rw (in_order_length table.rows table.count) h)

-- ── 10 ──

-- a verdict that does not tell 10 at this place
abbrev Not10 : ℕ → Verdict → Type 0
Not10 k v = v ≡ Refused NoDeadline k → ⊥

-- checks 4, 7, 6, 8 and 9 do not
module _ (k : ℕ) where
  no_test : (t : Bool) (r : Refusal) (j : ℕ) → Not10 k (Refused r j) → Not10 k (must t r j)
  no_test true r j n e = refused_not (sym e)
  no_test false r j n e = n e

  no_first : (v w : Verdict) → Not10 k v → Not10 k w → Not10 k (first_refusal v w)
  no_first Accepted w m n = n
  no_first (Refused r j) w m n = m

  row_not_10 : (at : ℕ) (seen : List ObjectRow) (r : ObjectRow) → Not10 k (row_verdict at seen r)
  row_not_10 at seen r =
      no_first _ _ (no_test (in_range 1 r.cost) CostRange at (λ e. let z : ◌≡◌ {A = ℕ} 0 1 = cc in omega arith))
      (no_first _ _ (no_test (hold_ok r.cost r.hold) HoldRange at (λ e. let z : ◌≡◌ {A = ℕ} 0 1 = cc in omega arith))
      (no_first _ _ (no_test (in_range 2 r.validity) ValidityRange at (λ e. let z : ◌≡◌ {A = ℕ} 0 1 = cc in omega arith))
      (no_first _ _ (no_test (not (has_id r.id seen)) IdRepeated at (λ e. let z : ◌≡◌ {A = ℕ} 0 1 = cc in omega arith))
      (λ e. refused_not (sym e)))))

  checks_not_10 : (at : ℕ) (seen rs : List ObjectRow) → Not10 k (checks_from at seen rs)
  checks_not_10 at seen [] = λ e. refused_not (sym e)
  checks_not_10 at seen (r ∷ rs) = no_first _ _ (row_not_10 at seen r) (checks_not_10 (at + 1) (seen ++ r ∷ []) rs)

  table_not_10 : (table : Table) → Not10 k (table_verdict table)
  table_not_10 table =
      no_first _ _ (no_test (leb 1 table.count && leb table.count 64) CountRange 0 (λ e. let z : ◌≡◌ {A = ℕ} 0 1 = cc in omega arith))
      (checks_not_10 0 [] (rows_in table))

-- 10 is told at a place exactly if the table is well-formed and the object there is the first without a deadline
pub ten_exactly : (table : Table) (k : ℕ)
    → (told (plan_of table).verdict ≡ 10 at_place k) ↔ ((table_verdict table ≡ Accepted) × FirstWithout [] (ordered table) k)
ten_exactly table k = (by_verdict (table_verdict table) refl, λ p. (refused_exactly table p.0 k).1 p.1)
  where
    by_verdict : (v : Verdict) → table_verdict table ≡ v → told (plan_of table).verdict ≡ 10 at_place k
        → (v ≡ Accepted) × FirstWithout [] (ordered table) k
    by_verdict Accepted w e = (refl, (refused_exactly table w k).0 e)
    by_verdict (Refused r j) w e =
        absurd (table_not_10 k table (w ∙ (sym (ap (λ (x : Planned). x.verdict) (ill_formed table r j w)) ∙ told_settles (plan_of table).verdict (Refused NoDeadline k) e)))

-- and a well-formed table gets no other refusal
pub planned_or_10 : (table : Table) → table_verdict table ≡ Accepted
    → ((plan_of table).verdict ≡ Accepted) ⊎ ((k : ℕ) × (told (plan_of table).verdict ≡ 10 at_place k))
planned_or_10 table w = elim (planned_or_refused table w) [
  | inl p ↦ inl (ap (λ (x : Planned). x.verdict) p.2)
  | inr p ↦ inr (p.0, ap (λ (x : Planned). told x.verdict) p.2)
]
