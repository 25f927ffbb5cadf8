-- When a start is accepted, and which refusal it gets otherwise: 4, 7, 8, 9 or 10 of the plan, then 11, then 12, each with its place.
-- Assumes nothing.
use Rattle.std.specs.Prelude.{ℕ, zero, suc, ◌+◌, ◌<◌, ◌≡◌, refl, ◌↔◌, ◌⊎◌, Bool, true, false, List, [], ◌∷◌, eqb, ltb, length}
use Rattle.std.proofs.Common.{ap, ◌∙◌, subst, inl, inr, arith, eqb-true, eq-eqb, ne_eqb, ltb-true, ltb-false}
use Rattle.std.proofs.Math.Decide.{dec_lt}
use Rattle.std.proofs.lemmas.Bool.{eqb-false}
use Rattle.rules.specs.declared.PlanRow.{PlanRow}
use Rattle.rules.specs.Answers.{Planned, Verdict, Accepted, Refused}
use Rattle.rules.specs.declared.Refusal.TheVariants.{FirstsCount, FirstRange}
use Rattle.rules.specs.Refusals.{Told, told, must, first_refusal}
use Rattle.rules.specs.Deadlines.{planned_rows}
use Rattle.rules.specs.Run.{started_run, firsts_from, firsts_verdict, started, started_from}
use Rattle.rules.proofs.Checks.{refused_not}
use Rattle.promises.specs.StartExactly.{BelowPeriod, AllBelow, FirstLate, GroundOf}
use Rattle.promises.specs.StartExactly.StartGround.{no_plan, other_number, late_first, all_below}

-- ── 12 ──

below_more : (p : PlanRow) (ps : List PlanRow) (f : ℕ) (fs : List ℕ) (n : ℕ) → f < p.period
    → ((j : ℕ) → j < n → BelowPeriod ps fs j) → (j : ℕ) → j < suc n → BelowPeriod (p ∷ ps) (f ∷ fs) j
below_more p ps f fs n h g zero l = h
below_more p ps f fs n h g (suc j) l = g j (omega arith)

-- the first releases are all below their periods, or one is the first that is not
abbrev Firsts : List PlanRow → List ℕ → ℕ → Verdict → Type 0
Firsts ps fs at v = ((v ≡ Accepted) × AllBelow ps fs) ⊎ ((k : ℕ) × (v ≡ Refused FirstRange (at + k)) × FirstLate ps fs k)

firsts_ground : (at : ℕ) (ps : List PlanRow) (fs : List ℕ) → length fs ≡ length ps → Firsts ps fs at (firsts_from at ps fs)
firsts_ground at [] fs e = inl (refl, λ k h. absurd (omega arith))
firsts_ground at (p ∷ ps) [] e = absurd (omega arith)
firsts_ground at (p ∷ ps) (f ∷ fs) e = step (ltb f p.period) refl (firsts_ground (at + 1) ps fs (omega arith))
  where
    step : (b : Bool) → ltb f p.period ≡ b → Firsts ps fs (at + 1) (firsts_from (at + 1) ps fs)
        → Firsts (p ∷ ps) (f ∷ fs) at (first_refusal (must b FirstRange at) (firsts_from (at + 1) ps fs))
    step false q g =
        let late : f < p.period → ⊥ = λ h. (let l = ltb-false f p.period q in omega arith) in
        let place : at ≡ at + 0 = omega arith in
        let before : (j : ℕ) → j < 0 → BelowPeriod (p ∷ ps) (f ∷ fs) j = λ j h. absurd (omega arith) in
        let it : FirstLate (p ∷ ps) (f ∷ fs) 0 = record { inside = omega arith; others_below = before; it_is_not = late } in
        inr (0, ap (Refused FirstRange) place, it)
    step true q (inl g) = inl (g.0, below_more p ps f fs (length ps) (ltb-true f p.period q) g.1)
    step true q (inr g) =
        let place : at + 1 + g.0 ≡ at + suc g.0 = omega arith in
        let l = g.2 in
        let below = below_more p ps f fs g.0 (ltb-true f p.period q) l.others_below in
        let k = suc g.0 in
        let it : FirstLate (p ∷ ps) (f ∷ fs) k = record { inside = omega arith; others_below = below; it_is_not = l.it_is_not } in
        inr (k, g.1 ∙ ap (Refused FirstRange) place, it)

one_late : {ps : List PlanRow} {fs : List ℕ} {j k : ℕ} → FirstLate ps fs j → FirstLate ps fs k → j ≡ k
one_late {ps} {fs} {j} {k} f g = by_order (dec_lt j k) (dec_lt k j)
  where
    by_order : Dec (j < k) → Dec (k < j) → j ≡ k
    by_order (yes a) b = absurd (f.it_is_not (g.others_below j a))
    by_order (no a) (yes b) = absurd (g.it_is_not (f.others_below k b))
    by_order (no a) (no b) = omega arith

-- ── The promise ──

module _ (planned : Planned) (clock : ℕ) (firsts : List ℕ) where
  ground : GroundOf planned firsts (told (started_from planned clock firsts).verdict)
  ground = by_plan planned.verdict refl
    where
      ps : List PlanRow
      ps = planned_rows planned.plan

      Grounded : Verdict → Type 0
      Grounded v = GroundOf planned firsts (told (started v (started_run clock ps firsts)).verdict)

      by_number : (b : Bool) → eqb (length firsts) (length ps) ≡ b → planned.verdict ≡ Accepted
          → Grounded (first_refusal (must b FirstsCount 0) (firsts_from 0 ps firsts))
      by_number false q w = other_number w (eqb-false (length firsts) (length ps) q)
      by_number true q w =
          let n = eqb-true (length firsts) (length ps) q in
          elim (firsts_ground 0 ps firsts n) [
            | inl g ↦ rw g.0 (all_below w n g.1)
            | inr g ↦ (let place : 0 + g.0 ≡ g.0 = omega arith in rw (g.1, place) (late_first w n g.2))
          ]

      by_plan : (v : Verdict) → planned.verdict ≡ v → Grounded (first_refusal v (firsts_verdict ps firsts))
      by_plan (Refused r k) w = no_plan w
      by_plan Accepted w = by_number (eqb (length firsts) (length ps)) refl w

  answered : {n : Told} → GroundOf planned firsts n → told (started_from planned clock firsts).verdict ≡ n
  answered (no_plan e) = rw e
  answered (other_number e n) = rw (e, ne_eqb (length firsts) (length (planned_rows planned.plan)) n)
  answered (late_first {k = k} e n f) =
      rw (e, eq-eqb (length firsts) (length (planned_rows planned.plan)) n)
      (elim (firsts_ground 0 (planned_rows planned.plan) firsts n) [
        | inl g ↦ absurd (f.it_is_not (g.1 k f.inside))
        | inr g ↦ (let place : 0 + g.0 ≡ k = omega (arith, one_late g.2 f) in rw (g.1, place))
      ])
  answered (all_below e n a) =
      rw (e, eq-eqb (length firsts) (length (planned_rows planned.plan)) n)
      (elim (firsts_ground 0 (planned_rows planned.plan) firsts n) [
        | inl g ↦ rw g.0
        | inr g ↦ absurd (g.2.it_is_not (a g.0 g.2.inside))
      ])

  -- a start is accepted, or refused with a number and a place, exactly on its ground
  pub start_exactly : (n : Told) → (told (started_from planned clock firsts).verdict ≡ n) ↔ GroundOf planned firsts n
  start_exactly n = (λ e. subst (GroundOf planned firsts) e ground, answered)

-- what is started is planned
pub start_planned : (planned : Planned) (clock : ℕ) (firsts : List ℕ) → (started_from planned clock firsts).verdict ≡ Accepted
    → planned.verdict ≡ Accepted
start_planned planned clock firsts e = by_plan planned.verdict e
  where
    by_plan : (v : Verdict) → (started (first_refusal v (firsts_verdict (planned_rows planned.plan) firsts)) (started_run clock (planned_rows planned.plan) firsts)).verdict ≡ Accepted → v ≡ Accepted
    by_plan Accepted q = refl
    by_plan (Refused r k) q = absurd (refused_not q)
