-- Two tables that agree on an object and all objects ahead of it, where all objects behind have h of 1 in both, give that object the same
-- deadline and period, where both are planned, and where the object has no deadline both are refused at it. Assumes nothing.
use Rattle.std.specs.Prelude.{ℕ, zero, suc, ◌-◌, ◌≤◌, ◌<◌, min, ◌≡◌, refl, List, [], ◌∷◌, length, take, drop, get_or, replicate}
use Rattle.std.proofs.Common.{sym, ap, ◌∙◌, subst, inl, inr, arith, length-take, get_or-take}
use Rattle.std.proofs.Math.Seq.{take-append_seam}
use Rattle.rules.specs.declared.ObjectRow.{ObjectRow}
use Rattle.rules.specs.declared.PlanRow.{PlanRow}
use Rattle.rules.specs.Answers.{Planned, Verdict, Accepted, Refused}
use Rattle.rules.specs.declared.Table.{Table}
use Rattle.rules.specs.StoredTable.{no_row, table_verdict}
use Rattle.rules.specs.Refusals.{◌at_place◌, told}
use Rattle.rules.specs.Order.{in_order}
use Rattle.rules.specs.Deadlines.{hold_behind, plan_row, no_plan_row, plan_of, planned_rows}
use Rattle.promises.specs.Exactly.{PlannedAs, IsDeadline, HasNone}
use Rattle.promises.proofs.Exactly.{refused_exactly, planned_or_refused, one_plan}
use Rattle.promises.specs.Exactly.PlannedAs.{done, next}
use Rattle.promises.specs.HoldsOfOne.{HoldsOne, same_hold}

-- of the objects behind, only the largest hold counts
other_behind : {ahead : List PlanRow} {r : ObjectRow} {behind others : List ObjectRow} {t : ℕ} → hold_behind behind ≡ hold_behind others
    → IsDeadline ahead r behind t → IsDeadline ahead r others t
other_behind e d = record {
  one = d.one;
  half = d.half;
  balances = rw e at d.balances;
  smallest = λ s a b x. d.smallest s a b (rw e x);
}

-- rows that agree up to k, and hold 1 behind, are planned alike up to k
agree : (k : ℕ) (rs rs' : List ObjectRow) {j : ℕ} {ahead plans : List PlanRow} → j ≤ k → take k rs ≡ take k rs' → HoldsOne (drop k rs)
    → HoldsOne (drop k rs') → PlannedAs j ahead rs plans → PlannedAs j ahead rs' plans
agree k rs rs' l e h h' done = done
agree zero rs rs' l e h h' (next t d p) = absurd (omega arith)
agree (suc k) (r ∷ rs) [] l e h h' (next t d p) = let z : ◌≡◌ {A = ℕ} 0 1 = cc in absurd (omega arith)
agree (suc k) (r ∷ rs) (r' ∷ rs') {ahead = ahead} l e h h' (next {k = j} {plans = plans} t d p) =
    let x : r ≡ r' = cc in
    let f : take k rs ≡ take k rs' = cc in
    let same : PlannedAs (suc j) ahead (r ∷ rs') (plan_row r t ∷ plans) =
    next t (other_behind (same_hold 0 k rs rs' (omega arith) f h h') d) (agree k rs rs' (omega arith) f h h' p) in
    subst (λ (u : ObjectRow). PlannedAs (suc j) ahead (u ∷ rs') (plan_row r t ∷ plans)) x same

-- the first rows of those planned
as_first : (k : ℕ) (rs : List ObjectRow) {ahead plans : List PlanRow} → PlannedAs (length rs) ahead rs plans
    → PlannedAs (length (take k rs)) ahead rs (take k plans)
as_first zero rs p = done
as_first (suc k) [] done = done
as_first (suc k) (r ∷ rs) (next t d p) = next t d (as_first k rs p)

-- what a planned table is planned as
pub planned_as : (table : Table) → (plan_of table).verdict ≡ Accepted
    → let rows = in_order table.rows table.count in PlannedAs (length rows) [] rows (planned_rows (plan_of table).plan)
planned_as table e = by_verdict (table_verdict table) refl
  where
    rows : List ObjectRow
    rows = in_order table.rows table.count

    by_verdict : (v : Verdict) → table_verdict table ≡ v → PlannedAs (length rows) [] rows (planned_rows (plan_of table).plan)
    by_verdict (Refused r k) w = let z : ◌≡◌ {A = ℕ} 0 1 = cc (w) in absurd (omega arith)
    by_verdict Accepted w = elim (planned_or_refused table w) [
      | inl p ↦
          (let s : planned_rows (plan_of table).plan ≡ p.0 =
          rw p.2 (take-append_seam p.0 (replicate (64 - length p.0) no_plan_row)) in
          rw s p.1)
      | inr p ↦ (let z : ◌≡◌ {A = ℕ} 0 1 = cc (ap (λ (x : Planned). x.verdict) p.2) in absurd (omega arith))
    ]

-- ── The promise ──

-- the first k objects in priority order agree, and all objects behind have h of 1 in both tables
module _ (t t' : Table) (k : ℕ)
    (agrees : take k (in_order t.rows t.count) ≡ take k (in_order t'.rows t'.count))
    (ones : HoldsOne (drop k (in_order t.rows t.count))) (ones' : HoldsOne (drop k (in_order t'.rows t'.count))) where
  abbrev rs : List ObjectRow
  rs = in_order t.rows t.count

  abbrev rs' : List ObjectRow
  rs' = in_order t'.rows t'.count

  -- so do their planned rows
  pub same_ahead_same_plan : (plan_of t).verdict ≡ Accepted → (plan_of t').verdict ≡ Accepted
      → take k (planned_rows (plan_of t).plan) ≡ take k (planned_rows (plan_of t').plan)
  same_ahead_same_plan a a' =
      let few : length (take k rs) ≤ k = simp length-take (omega arith) in
      let p = agree k rs rs' few agrees ones ones' (as_first k rs (planned_as t a)) in
      let q = as_first k rs' (planned_as t' a') in
      one_plan p (subst (λ (l : List ObjectRow). PlannedAs (length l) [] rs' (take k (planned_rows (plan_of t').plan))) (sym agrees) q)

  -- where one of them is the first without a deadline, so it is in the other table
  pub same_ahead_same_refusal : table_verdict t ≡ Accepted → table_verdict t' ≡ Accepted → (j : ℕ) → j < k
      → told (plan_of t).verdict ≡ 10 at_place j → told (plan_of t').verdict ≡ 10 at_place j
  same_ahead_same_refusal w w' j h refused =
      let f = (refused_exactly t w j).0 refused in
      let it : get_or rs j no_row ≡ get_or rs' j no_row =
      sym (get_or-take k rs j no_row h) ∙ (ap (λ l. get_or l j no_row) agrees ∙ get_or-take k rs' j no_row h) in
      let n : min k (length rs) ≡ min k (length rs') = simp length-take at (ap length agrees) in
      let held = same_hold (suc j) k rs rs' h agrees ones ones' in
      let none_here : HasNone f.plans (get_or rs' j no_row) (drop (suc j) rs') = rw (← it, ← held) f.it_has_none in
      (refused_exactly t' w' j).1 (record {
        plans = f.plans;
        others_have = agree k rs rs' (omega arith) agrees ones ones' f.others_have;
        inside = omega (arith, f.inside, n);
        it_has_none = none_here;
      })
