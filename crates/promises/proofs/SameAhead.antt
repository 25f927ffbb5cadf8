-- What becomes of an object depends only on it and on the objects ahead of it, where all objects behind have h of 1.
-- Assumes two starts at one clock, with the same slots stolen.
use Rattle.std.specs.Prelude.{ℕ, zero, suc, ◌+◌, ◌^◌, ◌<◌, ◌≡◌, refl, Bool, List, [], ◌∷◌, map, length, take, drop, get_or}
use Rattle.std.proofs.Common.{ap, ap₂, sym, ◌∙◌, arith, length-take, get_or-take}
use Rattle.std.proofs.Math.Option.{some}
use Rattle.std.proofs.Math.ListN.{get_elem?}
use Rattle.std.proofs.Math.Seq.{take-nil}
use Rattle.rules.specs.declared.PlanRow.{PlanRow}
use Rattle.rules.specs.declared.RunRow.{RunRow}
use Rattle.rules.specs.declared.Table.{Table}
use Rattle.rules.specs.Answers.{Accepted}
use Rattle.rules.specs.Deadlines.{no_plan_row, plan_of}
use Rattle.rules.specs.Run.{start_of, reading_of}
use Rattle.theory.specs.Model.{State, state}
use Rattle.theory.specs.Prefix
use Rattle.theory.proofs.Prefix.{same_ahead}
use Rattle.theory.specs.Start.{start, starts}
use Rattle.promises.specs.Runs.{run_after, run_row, RunObject, objects_in}
use Rattle.promises.specs.Encode.{object_of, course_from, encode, encode_run, start_states}
use Rattle.promises.proofs.Tied.{Encodable, encodable_after, run_history, row_at}
use Rattle.promises.specs.HoldsOfOne.{HoldsOne}
use Rattle.promises.specs.Plans.{unplanned}
use Rattle.promises.proofs.Plans.{as_rows_of}
use Rattle.promises.proofs.Readings.{reading_true}
use Rattle.promises.proofs.SamePlan.{planned_as, same_ahead_same_plan}
use Rattle.promises.specs.PlanExactly.{ordered, plans_in}
use Rattle.promises.proofs.StartExactly.{start_planned}
use Rattle.promises.specs.Promises.{run_of}
use Rattle.promises.proofs.Starts.{started_with, object_stands}

-- ── Two runs whose first k objects begin alike ──

module _ {k i : ℕ} {ps ps' : List PlanRow} {beyond beyond' : List RunRow} {from : ℕ} {ws ws' : List State}
    (x : Encodable ps beyond from ws) (x' : Encodable ps' beyond' from ws') (plans_same : take k ps ≡ take k ps')
    (begin_same : take k ws ≡ take k ws') (unheld : Prefix.Unheld k (map object_of ps)) (unheld' : Prefix.Unheld k (map object_of ps'))
    (h : i < k) (l : i < length ps) (stolen : ℕ → Bool) (t : ℕ) where
  same_plan : get_or ps i no_plan_row ≡ get_or ps' i no_plan_row
  same_plan =
      sym (get_or-take k ps i no_plan_row h)
      ∙ (ap (λ (qs : List PlanRow). get_or qs i no_plan_row) plans_same ∙ get_or-take k ps' i no_plan_row h)

  same_place : i < length ps'
  same_place = let e = rw (length-take k ps, length-take k ps') at (ap length plans_same) in omega arith

  same_state : state (course_from from ws stolen) i t ≡ state (course_from from ws' stolen) i t
  same_state =
      let given : Prefix.SameGiven k t (course_from from ws stolen) (course_from from ws' stolen) =
      record { from_same = refl; begin_same = begin_same; works_same = λ j u y z. refl; stolen_same = λ u y. refl } in
      same_ahead k (course_from from ws stolen) (course_from from ws' stolen) t given
      (rw x.objects_are unheld) (rw x'.objects_are unheld') i h

  -- the same row
  pub same_row : run_row (run_after (encode_run ps beyond from ws) stolen t) i ≡ run_row (run_after (encode_run ps' beyond' from ws') stolen t) i
  same_row = row_at x stolen t i l ∙ (ap₂ (encode (from + t)) same_plan same_state ∙ sym (row_at x' stolen t i same_place))

  -- and the same reading
  pub same_reading : reading_of (run_after (encode_run ps beyond from ws) stolen t) (get_or ps i no_plan_row).id
      ≡ reading_of (run_after (encode_run ps' beyond' from ws') stolen t) (get_or ps i no_plan_row).id
  same_reading =
      rw (run_history x stolen t, run_history x' stolen t)
      (reading_true (encodable_after x stolen t) i l
      ∙ rw (same_state, same_plan) (sym (reading_true (encodable_after x' stolen t) i same_place)))

-- ── Two starts ──

starts_take : (k clock : ℕ) (ps : List PlanRow) (fs : List ℕ)
    → take k (start_states clock ps fs) ≡ start_states clock (take k ps) (take k fs)
unfolding starts
starts_take zero clock ps fs = refl
starts_take (suc k) clock [] fs = refl
starts_take (suc k) clock (p ∷ ps) [] =
    ap {B = List State} (λ ws. start clock (object_of p) 0 ∷ ws) (rw (take-nil {A = ℕ} k) at (starts_take k clock ps []))
starts_take (suc k) clock (p ∷ ps) (f ∷ fs) = ap {B = List State} (λ ws. start clock (object_of p) f ∷ ws) (starts_take k clock ps fs)

-- none of the objects from place k on ever keeps the core
ones_unheld : (k : ℕ) (ps : List PlanRow) → HoldsOne (drop k (map unplanned ps)) → Prefix.Unheld k (map object_of ps)
ones_unheld k [] h i l u = absurd (omega arith)
ones_unheld zero (p ∷ ps) h zero l u = let one = h.0 in omega arith
ones_unheld zero (p ∷ ps) h (suc i) l u = ones_unheld 0 ps h.1 i (omega arith) (omega arith)
ones_unheld (suc k) (p ∷ ps) h zero l u = absurd (omega arith)
ones_unheld (suc k) (p ∷ ps) h (suc i) l u = ones_unheld k ps h i (omega arith) (omega arith)

table_unheld : (table : Table) (k : ℕ) → (plan_of table).verdict ≡ Accepted → HoldsOne (drop k (ordered table))
    → Prefix.Unheld k (map object_of (plans_in table))
table_unheld table k planned ones = ones_unheld k (plans_in table) (rw (as_rows_of (ordered table) (planned_as table planned)) ones)

-- tables that agree on the first k objects in priority order, and in which all objects behind have h of 1
pub same_tables : (a b : Table) (clock : ℕ) (f g : List ℕ) → (start_of a clock f).verdict ≡ Accepted → (start_of b clock g).verdict ≡ Accepted
    → clock < 2 ^ 32 → (k : ℕ) → take k (ordered a) ≡ take k (ordered b) → HoldsOne (drop k (ordered a)) → HoldsOne (drop k (ordered b))
    → take k f ≡ take k g → (i : ℕ) (o : RunObject) → i < k → get_elem? (objects_in a f) i ≡ some o → (stolen : ℕ → Bool) (t : ℕ)
    → (run_row (run_of a clock f stolen t) i ≡ run_row (run_of b clock g stolen t) i)
    × (reading_of (run_of a clock f stolen t) o.plan.id ≡ reading_of (run_of b clock g stolen t) o.plan.id)
same_tables a b clock f g accepted accepted' low k rows ones ones' firsts i o h place stolen t =
    let planned = start_planned (plan_of a) clock f accepted in
    let planned' = start_planned (plan_of b) clock g accepted' in
    let plans = same_ahead_same_plan a b k rows ones ones' planned planned' in
    let unheld = table_unheld a k planned ones in
    let unheld' = table_unheld b k planned' ones' in
    let s = object_stands (plans_in a) f i o place in
    let x = started_with a clock f accepted low in
    let x' = started_with b clock g accepted' low in
    let begin = starts_take k clock (plans_in a) f ∙ (ap₂ (start_states clock) plans firsts ∙ sym (starts_take k clock (plans_in b) g)) in
    rw (x.run_is, x'.run_is, ← s.1) (
      same_row x.encodable x'.encodable plans begin unheld unheld' h s.0 stolen t,
      same_reading x.encodable x'.encodable plans begin unheld unheld' h s.0 stolen t,
    )
