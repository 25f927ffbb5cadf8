-- An accepted start: its run is, in 32 bits, a start of the theory with the planned objects of the table, and what is promised of it.
-- Assumes nothing but the acceptance and a 32-bit clock.
use Prim.Native.Nat.{ℕ, zero, suc, ◌+◌, ◌-◌, ◌*◌, ◌%◌, ◌^◌, ◌≤◌, ◌<◌}
use Rattle.std.proofs.Math.Path.{◌≡◌, refl}
use Rattle.std.proofs.Common.{ap, ap₂, sym, ◌∙◌, subst, eqb-true, ltb-true}
use Rattle.std.proofs.Math.Logic.{inl, inr}
use Rattle.std.specs.Prelude.{Bool, true, List, [], ◌∷◌, map, length, get_or, replicate, eqb, ltb}
use Rattle.std.proofs.Math.Option.{some}
use native.Mathlib.Omega.{arith}
use Rattle.std.proofs.Math.ListN.{get_elem?}
use Rattle.std.proofs.lemmas.List.{length-map, length-replicate}
use Rattle.rules.specs.declared.PlanRow.{PlanRow}
use Rattle.rules.specs.declared.RunRow.{RunRow}
use Rattle.rules.specs.declared.Run.{Run}
use Rattle.rules.specs.declared.Refusal.TheVariants.{FirstsCount, FirstRange}
use Rattle.rules.specs.declared.Table.{Table}
use Rattle.rules.specs.Answers.{Verdict, Accepted, Refused}
use Rattle.rules.specs.Deadlines.{no_plan_row, plan_of, planned_rows}
use Rattle.rules.specs.RunState.{row_none, every, acceptable}
use Rattle.rules.specs.Run.{no_run_row, start_row, start_rows, started_run, firsts_from, firsts_verdict, started, start_of}
use Rattle.rules.proofs.Checks.{both_accept, test_passed, refused_not}
use Rattle.rules.proofs.Lists.{Every}
use Rattle.theory.specs.Model.{Object, at, Course, history, state, Unstolen}
use Rattle.theory.specs.Plain.{Whole}
use Rattle.theory.proofs.Bounds.{sampled_before}
use Rattle.theory.specs.Releases.{ReleaseOf, Sampled}
use Rattle.theory.proofs.Releases.{samples}
use Rattle.theory.specs.Start.{start, starts}
use Rattle.theory.proofs.Start.{start_at, start_objects, start_acceptable}
use Rattle.promises.specs.Plans.{PlannedRows}
use Rattle.promises.proofs.Plans.{plan_rows}
use Rattle.promises.specs.PlanExactly.{plans_in}
use Rattle.promises.proofs.Sound.{planned_sound}
use Rattle.promises.specs.Runs.{run_after, Low, Fits, NothingLeft, RunObject, objects_of, objects_in, IsRelease}
use Rattle.promises.specs.Encode.{object_of, course_from, encode, encodes, encode_run, spare, start_states, start_course}
use Rattle.promises.proofs.Tied.{Encodable, states_length, object_at, run_history, encoded_acceptable, encoded_fits}
use Rattle.promises.proofs.Demand3.{Stands, due_at, reads_at, promised}
use Rattle.promises.specs.Promises.{Promised, InEveryRun, run_of}

-- ── Its states ──

start_rows_law : (clock : ℕ) (ps : List PlanRow) (fs : List ℕ) → length fs ≡ length ps
    → start_rows clock ps fs ≡ encodes clock ps (start_states clock ps fs)
unfolding encodes encode starts
start_rows_law clock [] fs e = refl
start_rows_law clock (p ∷ ps) [] e = absurd (omega arith)
start_rows_law clock (p ∷ ps) (f ∷ fs) e = ap {B = List RunRow} (λ l. start_row clock p f ∷ l) (start_rows_law clock ps fs (omega arith))

firsts_below : (from : ℕ) (ps : List PlanRow) (fs : List ℕ) → length fs ≡ length ps → firsts_from from ps fs ≡ Accepted
    → (i : ℕ) → i < length ps → get_or fs i 0 < (get_or ps i no_plan_row).period
firsts_below from [] fs n e i h = absurd (omega arith)
firsts_below from (p ∷ ps) [] n e i h = absurd (omega arith)
firsts_below from (p ∷ ps) (f ∷ fs) n e zero h = ltb-true f p.period (test_passed (ltb f p.period) FirstRange from _ e).0
firsts_below from (p ∷ ps) (f ∷ fs) n e (suc i) h =
    firsts_below (from + 1) ps fs (omega arith) (test_passed (ltb f p.period) FirstRange from _ e).1 i (omega arith)

spare_none : (n : ℕ) → every row_none (replicate n no_run_row) ≡ true
unfolding every row_none
spare_none zero = refl
spare_none (suc n) = spare_none n

spare_low : (n : ℕ) → Every Low (replicate n no_run_row)
spare_low zero = tt
spare_low (suc n) =
    let low : Low no_run_row = record {
      next_low = omega arith;
      sample_low = omega arith;
      stored_low = λ s e. let z : ◌≡◌ {A = ℕ} 0 1 = cc in absurd (omega arith);
      skips_low = omega arith;
    } in
    (low, spare_low n)

-- nothing is in hand
start_whole : (clock : ℕ) (os : List Object) (firsts : ℕ → ℕ) (i : ℕ) → i < length (starts clock os firsts)
    → Whole (at (starts clock os firsts) i)
unfolding start starts
start_whole clock [] firsts i l = absurd (omega arith)
start_whole clock (o ∷ os) firsts zero l = λ h. absurd (omega arith)
start_whole clock (o ∷ os) firsts (suc i) l = start_whole clock os (λ j. firsts (suc j)) i (omega arith)

-- what an accepted start comes to
pub record StartedWith (table : Table) (clock : ℕ) (firsts : List ℕ) (ps : List PlanRow) : Type 0 where
  pub run_is : (start_of table clock firsts).run ≡ encode_run ps (spare ps) clock (start_states clock ps firsts)
  pub planned : PlannedRows ps
  pub encodable : Encodable ps (spare ps) clock (start_states clock ps firsts)

started_accepted : (v : Verdict) (run : Run) → (started v run).verdict ≡ Accepted → (v ≡ Accepted) × ((started v run).run ≡ run)
started_accepted Accepted run e = (refl, refl)
started_accepted (Refused r k) run e = absurd (refused_not e)

pub started_with : (table : Table) (clock : ℕ) (firsts : List ℕ) → (start_of table clock firsts).verdict ≡ Accepted → clock < 2 ^ 32
    → StartedWith table clock firsts (planned_rows (plan_of table).plan)
unfolding encode_run
started_with table clock firsts e low =
    let ps = planned_rows (plan_of table).plan in
    let s = started_accepted _ (started_run clock ps firsts) e in
    let v = both_accept (plan_of table).verdict (firsts_verdict ps firsts) s.0 in
    let f = test_passed (eqb (length firsts) (length ps)) FirstsCount 0 _ v.1 in
    let size : length firsts ≡ length ps = eqb-true (length firsts) (length ps) f.0 in
    let good = plan_rows table v.0 in
    let wraps : clock % 2 ^ 32 ≡ clock = omega arith in
    record {
      run_is = s.1 ∙ rw (wraps, ← start_rows_law clock ps firsts size) refl;
      planned = good.rows;
      encodable = record {
        count_pos = good.count_pos;
        size = simp length-replicate (omega (arith, good.count_le));
        ids_differ = good.ids_differ;
        sound = λ i h. planned_sound (good.rows i h);
        none_beyond = spare_none (64 - length ps);
        low_beyond = spare_low (64 - length ps);
        objects_are = start_objects clock (map object_of ps) (λ i. get_or firsts i 0);
        whole = start_whole clock (map object_of ps) (λ i. get_or firsts i 0);
        acceptable_then = start_acceptable clock (map object_of ps) (λ i. get_or firsts i 0)
            (λ i h.
            let l : i < length ps = rw (length-map ps object_of) at h in
            rw (object_at ps i l) (firsts_below 0 ps firsts size f.1 i l));
      };
    }

pub object_stands : (ps : List PlanRow) (fs : List ℕ) (i : ℕ) (o : RunObject) → get_elem? (objects_of ps fs) i ≡ some o
    → (i < length ps) × (get_or ps i no_plan_row ≡ o.plan) × (get_or fs i 0 ≡ o.first)
object_stands [] fs i o e = let z : ◌≡◌ {A = ℕ} 0 1 = cc in absurd (omega arith)
object_stands (p ∷ ps) [] i o e = let z : ◌≡◌ {A = ℕ} 0 1 = cc in absurd (omega arith)
object_stands (p ∷ ps) (f ∷ fs) zero o e = (omega arith, cc, cc)
object_stands (p ∷ ps) (f ∷ fs) (suc i) o e = let h = object_stands ps fs i o e in (omega (arith, h.0), h.1, h.2)

-- ── What is promised of it ──

-- of the object o at place i
module _ (clock : ℕ) (ps : List PlanRow) (fs : List ℕ) (k : Encodable ps (spare ps) clock (start_states clock ps fs))
    (stolen : ℕ → Bool) (i : ℕ) (o : RunObject) (place : get_elem? (objects_of ps fs) i ≡ some o) where
  abbrev course : Course
  course = course_from clock (start_states clock ps fs) stolen

  begins_so : at (start_states clock ps fs) i ≡ start clock (object_of o.plan) o.first
  begins_so =
      let s = object_stands ps fs i o place in
      start_at clock (map object_of ps) (λ j. get_or fs j 0) i (rw (length-map ps object_of) s.0)
      ∙ ap₂ (start clock) (object_at ps i s.0 ∙ ap object_of s.1) s.2

  pub stands : Stands ps clock (start_states clock ps fs) i o
  unfolding start
  stands = let s = object_stands ps fs i o place in record { inside = s.0; plan_is = s.1; next_is = rw begins_so refl }

  inside : i < length (start_states clock ps fs)
  inside = rw (states_length k) stands.inside

  sampled : (t : ℕ) → Sampled (start clock (object_of o.plan) o.first) (state course i t)
  sampled t = rw begins_so at (samples course i t inside)

  -- a sample at t is of a release before t
  of_release : (t p : ℕ) → p ≤ clock + t → ReleaseOf (start clock (object_of o.plan) o.first) p
      → (r : ℕ) × (p ≡ clock + r) × (r < suc t) × IsRelease o r
  unfolding start
  of_release t p l x =
      let r = o.first + x.0 * o.plan.period in
      let e : p ≡ clock + r = omega (arith, x.1) in
      (r, e, omega arith, (x.0, refl))

  stored_sample : (t p : ℕ) → (state course i t).value ≡ some p → (r : ℕ) × (p ≡ clock + r) × (r < t) × IsRelease o r
  unfolding start history
  stored_sample zero p e = let z : ◌≡◌ {A = ℕ} 0 1 = cc begins_so in absurd (omega arith)
  stored_sample (suc t) p e =
      elim ((sampled (suc t)).stored p e) [
        | inl y ↦ (let z : ◌≡◌ {A = ℕ} 0 1 = cc in absurd (omega arith))
        | inr (inl y) ↦ absurd (omega (arith, y.0))
        | inr (inr y) ↦ of_release t p ((sampled_before course k.acceptable_then i inside t).stored p e) y
      ]

  sample_in_hand : (t : ℕ) → 0 < (state course i t).left → (r : ℕ) × ((state course i t).sample ≡ clock + r) × (r < t) × IsRelease o r
  unfolding start history
  sample_in_hand zero h = let z : (at (start_states clock ps fs) i).left ≡ 0 = rw begins_so refl in absurd (omega arith)
  sample_in_hand (suc t) h =
      elim ((sampled (suc t)).in_hand h) [
        | inl y ↦ absurd (omega (arith, y.0))
        | inr y ↦ of_release t (state course i (suc t)).sample ((sampled_before course k.acceptable_then i inside t).in_hand h) y
      ]

  every_run : InEveryRun (run_after (encode_run ps (spare ps) clock (start_states clock ps fs)) stolen) course i o
  every_run = record {
    fresh_is_true = reads_at k stolen i o stands;
    stored_sample = stored_sample;
    sample_in_hand = sample_in_hand;
    due = due_at k stolen i o stands;
  }

module _ (table : Table) (clock : ℕ) (firsts : List ℕ) (accepted : (start_of table clock firsts).verdict ≡ Accepted)
    (low : clock < 2 ^ 32) where
  with : StartedWith table clock firsts (plans_in table)
  with = started_with table clock firsts accepted low

  pub start_accepted : Fits (start_of table clock firsts).run × (acceptable (start_of table clock firsts).run ≡ true)
  start_accepted = rw with.run_is (encoded_fits with.encodable, encoded_acceptable with.encodable)

  pub start_history : (stolen : ℕ → Bool) (t : ℕ) → run_of table clock firsts stolen t
      ≡ encode_run (plans_in table) (spare (plans_in table)) (clock + t) (history (start_course table clock firsts stolen) t)
  start_history stolen t = ap (λ (r : Run). run_after r stolen t) with.run_is ∙ run_history with.encodable stolen t

  module _ (stolen : ℕ → Bool) (i : ℕ) (o : RunObject) (place : get_elem? (objects_in table firsts) i ≡ some o) where
    pub start_every_run : InEveryRun (run_of table clock firsts stolen) (start_course table clock firsts stolen) i o
    start_every_run =
        subst (λ (r : Run). InEveryRun (run_after r stolen) (start_course table clock firsts stolen) i o) (sym with.run_is)
        (every_run clock (plans_in table) firsts with.encodable stolen i o place)

    pub start_promised : (b e : ℕ) → NothingLeft (run_of table clock firsts stolen b) → Unstolen stolen b e
        → Promised (run_of table clock firsts stolen) i o b e
    start_promised b e q given =
        let at_place = stands clock (plans_in table) firsts with.encodable stolen i o place in
        let q' = subst (λ (r : Run). NothingLeft (run_after r stolen b)) with.run_is q in
        subst (λ (r : Run). Promised (run_after r stolen) i o b e) (sym with.run_is)
        (promised with.encodable stolen i o at_place with.planned b e q' given)
