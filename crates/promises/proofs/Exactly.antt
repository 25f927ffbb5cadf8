-- Demand 2 on plans: a well-formed table is refused exactly if some object has no deadline within half its validity, and then with 10 and the
-- place of the first such object; otherwise each deadline is the smallest number of slots that balances, and the period is validity minus deadline. Assumes nothing.
use Rattle.std.specs.Prelude.{ℕ, zero, suc, ◌+◌, ◌/◌, ◌<◌, ◌≡◌, refl, ◌↔◌, ◌⊎◌, List, [], ◌∷◌, ◌++◌, length, drop, get_or}
use Rattle.std.proofs.Common.{sym, ap, ap₂, ◌∙◌, subst, inl, inr, append_assoc, append-nil, arith, length-append}
use Rattle.std.proofs.Math.Option.{Option, none, some}
use Rattle.std.proofs.Math.Decide.{dec_lt}
use Rattle.rules.specs.declared.ObjectRow.{ObjectRow}
use Rattle.rules.specs.declared.PlanRow.{PlanRow}
use Rattle.rules.specs.Answers.{Planned, Accepted, Refused}
use Rattle.rules.specs.declared.Table.{Table}
use Rattle.rules.specs.declared.Refusal.{Refusal}
use Rattle.rules.specs.declared.Refusal.TheVariants.{NoDeadline}
use Rattle.rules.specs.StoredTable.{no_row, table_verdict}
use Rattle.rules.specs.Order.{in_order}
use Rattle.rules.specs.Deadlines.{own_of, need_of, smallest_within, plan_row, refused_plan, accepted_plan, where_found, plan_from, plan_of}
use Rattle.rules.proofs.Balance.{found, missed}
use Rattle.rules.specs.Refusals.{◌at_place◌, told}
use Rattle.rules.proofs.Told.{told_settles}
use Rattle.promises.specs.Exactly.{IsDeadline, HasNone, PlannedAs, FirstWithout}
use Rattle.promises.specs.Exactly.PlannedAs.{done, next}

-- ── One object ──

module _ (ahead : List PlanRow) (r : ObjectRow) (behind : List ObjectRow) where
  is_deadline : (t : ℕ) → smallest_within ahead (own_of r behind) (r.validity / 2) ≡ some t → IsDeadline ahead r behind t
  is_deadline t e =
      let f = found (need_of ahead (own_of r behind)) (r.validity / 2) 1 t e in
      record { one = f.from; half = omega (arith, f.below); balances = sym f.fixed; smallest = λ s a b x. f.moved s a b (sym x) }

  has_none : smallest_within ahead (own_of r behind) (r.validity / 2) ≡ none → HasNone ahead r behind
  has_none e t a b x = missed (need_of ahead (own_of r behind)) (r.validity / 2) 1 e t a (omega arith) (sym x)

-- an object has one deadline at most
pub one_deadline : {ahead : List PlanRow} {r : ObjectRow} {behind : List ObjectRow} {s t : ℕ}
    → IsDeadline ahead r behind s → IsDeadline ahead r behind t → s ≡ t
one_deadline {ahead} {r} {behind} {s} {t} p q = by_order (dec_lt s t) (dec_lt t s)
  where
    by_order : Dec (s < t) → Dec (t < s) → s ≡ t
    by_order (yes a) b = absurd (q.smallest s p.one a p.balances)
    by_order (no a) (yes b) = absurd (p.smallest t q.one b q.balances)
    by_order (no a) (no b) = omega arith

-- and not both one and none
pub not_both : {ahead : List PlanRow} {r : ObjectRow} {behind : List ObjectRow} {t : ℕ}
    → IsDeadline ahead r behind t → HasNone ahead r behind → ⊥
not_both {t = t} p n = n t p.one p.half p.balances

-- ── The rows in priority order ──

-- the plan, or the refusal with its place
abbrev Answer : List PlanRow → List ObjectRow → Planned → Type 0
Answer ahead rs x =
    ((plans : List PlanRow) × PlannedAs (length rs) ahead rs plans × (x ≡ accepted_plan (ahead ++ plans)))
    ⊎ ((k : ℕ) × FirstWithout ahead rs k × (x ≡ refused_plan NoDeadline (length ahead + k)))

-- an object that is the first without a deadline behind a row is so, one place further, behind the rows ahead of that row
first_behind : (ahead : List PlanRow) (r : ObjectRow) (rs : List ObjectRow) (t k : ℕ) → IsDeadline ahead r rs t
    → FirstWithout (ahead ++ (plan_row r t ∷ [])) rs k → FirstWithout ahead (r ∷ rs) (suc k)
first_behind ahead r rs t k d f = record {
  plans = plan_row r t ∷ f.plans;
  others_have = next t d f.others_have;
  inside = omega (arith, f.inside);
  it_has_none = rw (append_assoc ahead (plan_row r t ∷ []) f.plans) at f.it_has_none;
}

-- which of the two it is, is settled by the deadlines
planned_or_none : (ahead : List PlanRow) (rs : List ObjectRow) → Answer ahead rs (plan_from ahead rs)
planned_or_none ahead [] = inl ([], done, rw append-nil)
planned_or_none ahead (r ∷ rs) =
    by_deadline (smallest_within ahead (own_of r rs) (r.validity / 2)) refl (λ t. planned_or_none (ahead ++ (plan_row r t ∷ [])) rs)
  where
    by_deadline : (d : Option ℕ) → smallest_within ahead (own_of r rs) (r.validity / 2) ≡ d
        → ((t : ℕ) → Answer (ahead ++ (plan_row r t ∷ [])) rs (plan_from (ahead ++ (plan_row r t ∷ [])) rs))
        → Answer ahead (r ∷ rs) (where_found d (λ t. plan_from (ahead ++ (plan_row r t ∷ [])) rs) (refused_plan NoDeadline (length ahead)))
    by_deadline none e others =
        let here : HasNone (ahead ++ []) r rs = rw append-nil (has_none ahead r rs e) in
        let first : FirstWithout ahead (r ∷ rs) 0 =
        record { plans = []; others_have = done; inside = omega arith; it_has_none = here } in
        let place : length ahead ≡ length ahead + 0 = omega arith in
        inr (0, first, ap (refused_plan NoDeadline) place)
    by_deadline (some t) e others =
        let d = is_deadline ahead r rs t e in
        elim (others t) [
          | inl p ↦ inl (plan_row r t ∷ p.0, next t d p.1, rw (append_assoc ahead (plan_row r t ∷ []) p.0) at p.2)
          | inr p ↦
              (let place : length (ahead ++ (plan_row r t ∷ [])) + p.0 ≡ length ahead + suc p.0 = simp length-append (omega arith) in
              inr (suc p.0, first_behind ahead r rs t p.0 d p.1, rw place at p.2))
        ]

-- a deadline in place of an equal one
moved : (ahead : List PlanRow) (r : ObjectRow) {k : ℕ} {rs : List ObjectRow} {plans : List PlanRow} {s t : ℕ} → s ≡ t
    → PlannedAs k (ahead ++ (plan_row r s ∷ [])) rs plans → PlannedAs k (ahead ++ (plan_row r t ∷ [])) rs plans
moved ahead r {k} {rs} {plans} = subst (λ (u : ℕ). PlannedAs k (ahead ++ (plan_row r u ∷ [])) rs plans)

-- the rows behind the first: where the first of them without a deadline is
others : {ahead : List PlanRow} {r : ObjectRow} {rs : List ObjectRow} {t k : ℕ} → IsDeadline ahead r rs t
    → FirstWithout ahead (r ∷ rs) (suc k) → FirstWithout (ahead ++ (plan_row r t ∷ [])) rs k
others {ahead} {r} {rs} {t} {k} d f = step f.plans f.others_have f.it_has_none
  where
    step : (plans : List PlanRow) → PlannedAs (suc k) ahead (r ∷ rs) plans → HasNone (ahead ++ plans) (get_or rs k no_row) (drop (suc k) rs)
        → FirstWithout (ahead ++ (plan_row r t ∷ [])) rs k
    step [] p n = elim p [ ]
    step (q ∷ qs) (next s e p) n = record {
      plans = qs;
      others_have = moved ahead r (one_deadline e d) p;
      inside = omega (arith, f.inside);
      it_has_none = rw (append_assoc ahead (plan_row r t ∷ []) qs) (rw (one_deadline e d) at n);
    }

-- the first object itself is without one
at_once : {ahead : List PlanRow} {r : ObjectRow} {rs : List ObjectRow} → FirstWithout ahead (r ∷ rs) 0 → HasNone ahead r rs
at_once {ahead} {r} {rs} f = step f.plans f.others_have f.it_has_none
  where
    step : (plans : List PlanRow) → PlannedAs 0 ahead (r ∷ rs) plans → HasNone (ahead ++ plans) r rs → HasNone ahead r rs
    step [] done n = rw append-nil at n
    step (q ∷ qs) p n = elim p [ ]

-- the first object has one
has_one : {ahead : List PlanRow} {r : ObjectRow} {rs : List ObjectRow} {k : ℕ} → FirstWithout ahead (r ∷ rs) (suc k)
    → (t : ℕ) × IsDeadline ahead r rs t
has_one {ahead} {r} {rs} {k} f = step f.plans f.others_have
  where
    step : (plans : List PlanRow) → PlannedAs (suc k) ahead (r ∷ rs) plans → (t : ℕ) × IsDeadline ahead r rs t
    step [] p = elim p [ ]
    step (q ∷ qs) (next s e p) = (s, e)

-- the rows are not planned and refused
clash : {n : ℕ} {ahead : List PlanRow} {rs : List ObjectRow} {plans : List PlanRow} (k : ℕ) → PlannedAs n ahead rs plans → k < n
    → FirstWithout ahead rs k → ⊥
clash k done h f = absurd (omega arith)
clash zero (next t d p) h f = not_both d (at_once f)
clash (suc k) (next t d p) h f = clash k p (omega arith) (others d f)

-- nor is the first without a deadline at two places
one_place : {ahead : List PlanRow} {rs : List ObjectRow} (j k : ℕ) → FirstWithout ahead rs j → FirstWithout ahead rs k → j ≡ k
one_place {rs = []} j k f g = absurd (omega (arith, f.inside))
one_place {rs = r ∷ rs} zero zero f g = refl
one_place {rs = r ∷ rs} zero (suc k) f g = absurd (not_both (has_one g).1 (at_once f))
one_place {rs = r ∷ rs} (suc j) zero f g = absurd (not_both (has_one f).1 (at_once g))
one_place {ahead = ahead} {rs = r ∷ rs} (suc j) (suc k) f g =
    let d = has_one f in
    ap suc (one_place {ahead = ahead ++ (plan_row r d.0 ∷ [])} j k (others d.1 f) (others d.1 g))

-- nor planned in two ways
pub one_plan : {k : ℕ} {ahead : List PlanRow} {rs : List ObjectRow} {ps qs : List PlanRow}
    → PlannedAs k ahead rs ps → PlannedAs k ahead rs qs → ps ≡ qs
one_plan done done = refl
one_plan {ahead = ahead} (next {r = r} t d p) (next s e q) =
    let x = one_deadline d e in
    ap₂ (λ (u : ℕ) (l : List PlanRow). plan_row r u ∷ l) x (one_plan (moved ahead r x p) q)

-- ── The promise ──

module _ (table : Table) (well_formed : table_verdict table ≡ Accepted) where
  abbrev rows : List ObjectRow
  rows = in_order table.rows table.count

  settled : plan_of table ≡ plan_from [] rows
  settled = rw well_formed

  refused_at : (k : ℕ) → plan_from [] rows ≡ refused_plan NoDeadline (0 + k) → plan_of table ≡ refused_plan NoDeadline k
  refused_at k e = let z : 0 + k ≡ k = omega arith in settled ∙ (e ∙ ap (refused_plan NoDeadline) z)

  -- refused with 10 at a place exactly if the object there is the first without a deadline
  pub refused_exactly : (k : ℕ)
      → (told (plan_of table).verdict ≡ 10 at_place k) ↔ FirstWithout [] (in_order table.rows table.count) k
  refused_exactly k = elim (planned_or_none [] rows) [
    | inl p ↦ (
      λ e.
          (let z : ◌≡◌ {A = ℕ} 0 1 = cc (settled, p.2, told_settles (plan_of table).verdict (Refused NoDeadline k) e) in
          absurd (omega arith)),
      λ q. absurd (clash k p.1 q.inside q),
    )
    | inr p ↦ (
      λ e.
          (let z : p.0 ≡ k = cc (refused_at p.0 p.2, told_settles (plan_of table).verdict (Refused NoDeadline k) e) in
          subst (FirstWithout [] rows) z p.1),
      λ q.
          ap (λ (x : Planned). told x.verdict) (refused_at p.0 p.2)
          ∙ ap (λ (j : ℕ). 10 at_place j) (one_place p.0 k p.1 q),
    )
  ]

  -- planned exactly as the deadlines say
  pub planned_exactly : (plans : List PlanRow) → PlannedAs (length rows) [] rows plans → plan_of table ≡ accepted_plan plans
  planned_exactly plans q = elim (planned_or_none [] rows) [
    | inl p ↦ settled ∙ (p.2 ∙ ap accepted_plan (one_plan p.1 q))
    | inr p ↦ absurd (clash p.0 q p.1.inside p.1)
  ]

  -- there is no third answer
  pub planned_or_refused :
      ((plans : List PlanRow) × PlannedAs (length rows) [] rows plans × (plan_of table ≡ accepted_plan plans))
      ⊎ ((k : ℕ) × FirstWithout [] rows k × (plan_of table ≡ refused_plan NoDeadline k))
  planned_or_refused = elim (planned_or_none [] rows) [
    | inl p ↦ inl (p.0, p.1, settled ∙ p.2)
    | inr p ↦ inr (p.0, p.1, refused_at p.0 p.2)
  ]

-- a table that is not well-formed is refused with the number and place of its first fault
pub ill_formed : (table : Table) (r : Refusal) (k : ℕ) → table_verdict table ≡ Refused r k → plan_of table ≡ refused_plan r k
ill_formed table r k e = rw e
