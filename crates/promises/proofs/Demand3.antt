-- In every run, stolen slots or not: when releases are due, and what a reading tells; and demand 3 where the rows are planned, from an
-- instant with nothing left over, while no slot is stolen. Assumes states in which a run can be: `Encodable`.
use Prim.Native.Nat.{ℕ, suc, ◌+◌, ◌-◌, ◌%◌, ◌^◌, ◌<◌, min}
use Rattle.std.specs.Prelude.{◌≡◌, refl, ◌↔◌, Bool, List, [], ◌∷◌, get_or}
use Rattle.std.proofs.Math.Path.{ap}
use Rattle.std.proofs.Common.{◌∙◌}
use native.Mathlib.Omega.{arith}
use Rattle.std.proofs.Math.ListN.{length}
use borrow.Author.Tests.{eq-eqb, lt-ltb, lt-leb}
use Rattle.rules.specs.declared.PlanRow.{PlanRow}
use Rattle.rules.specs.declared.RunRow.{RunRow}
use Rattle.rules.specs.declared.Run.{Run}
use Rattle.rules.specs.Deadlines.{no_plan_row}
use Rattle.rules.specs.Run.{begun_of, released_of, reading_of, true_reading}
use Rattle.theory.specs.Model.{Object, State, at, Course, history, state, plan_at, left_sum, Quiet, Unstolen}
use Rattle.theory.specs.Releases.{ReleaseOf}
use Rattle.theory.proofs.Releases.{release_due}
use Rattle.promises.specs.Plans.{PlannedRows}
use Rattle.promises.proofs.Sound.{Sound}
use Rattle.promises.specs.Runs.{run_after, run_row, DueAt, NothingLeft, RunObject, IsRelease, true_age}
use Rattle.promises.specs.Encode.{object_of, course_from, encode, encode_run}
use Rattle.promises.proofs.Clock.{wrap_same}
use Rattle.promises.proofs.Tied.{Encodable, states_length, planned_at, encodable_after, run_history, row_at}
use Rattle.promises.specs.InHistory.{KeptInHistory}
use Rattle.promises.proofs.InHistory.{kept_in_history}
use Rattle.promises.proofs.Readings.{reading_true}
use Rattle.promises.specs.Promises.{Promised}

-- a release that is due with no work left begins a job
begins_due : (clock : ℕ) (row : RunRow) → row.next ≡ clock → row.left ≡ 0 → released_of clock row ≡ begun_of clock row
unfolding released_of
begins_due clock row d z = simp (eq-eqb row.next clock d, eq-eqb row.left 0 z)

left_quiet : (ws : List State) → ((i : ℕ) → i < length ws → (at ws i).left ≡ 0) → Quiet ws
unfolding left_sum
left_quiet [] h = refl
left_quiet (w ∷ ws) h =
    let z : w.left ≡ 0 = h 0 (omega arith) in
    let ih = left_quiet ws (λ i k. h (suc i) (omega arith)) in
    omega arith

-- the object o stands at place i of the states
pub record Stands (ps : List PlanRow) (from : ℕ) (ws : List State) (i : ℕ) (o : RunObject) : Type 0 where
  pub inside : i < length ps
  pub plan_is : get_or ps i no_plan_row ≡ o.plan
  pub next_is : (at ws i).next ≡ from + o.first

module _ {ps : List PlanRow} {beyond : List RunRow} {from : ℕ} {ws : List State} (k : Encodable ps beyond from ws) (stolen : ℕ → Bool) where
  abbrev run : ℕ → Run
  run t = run_after (encode_run ps beyond from ws) stolen t

  abbrev course : Course
  course = course_from from ws stolen

  clock_at : (t : ℕ) → (run t).clock ≡ (from + t) % 2 ^ 32
  unfolding encode_run
  clock_at t = rw (run_history k stolen t)

  nothing_quiet : (t : ℕ) → NothingLeft (run t) → Quiet (history course t)
  unfolding encode_run encode
  nothing_quiet t q =
      left_quiet (history course t)
      (λ i h.
      let l : i < length ps = rw (states_length (encodable_after k stolen t)) at h in
      let z = q i (rw (run_history k stolen t) l) in
      rw (row_at k stolen t i l) at z)

  module _ (i : ℕ) (o : RunObject) (s : Stands ps from ws i o) where
    place : i < length ws
    place = rw (states_length k) s.inside

    plan_at_law : plan_at course i ≡ object_of o.plan
    plan_at_law = planned_at k i s.inside ∙ ap object_of s.plan_is

    row_of : (t : ℕ) → run_row (run t) i ≡ encode (from + t) o.plan (state course i t)
    row_of t = row_at k stolen t i s.inside ∙ ap (λ p. encode (from + t) p (state course i t)) s.plan_is

    pub release_same : (r : ℕ) → ReleaseOf (at ws i) (from + r) ↔ IsRelease o r
    release_same r =
        let period_is : (at ws i).planned.period ≡ o.plan.period = ap (λ (x : Object). x.period) plan_at_law in
        rw (s.next_is, period_is) (λ p. (p.0, omega arith), λ p. (p.0, omega arith))

    -- a release is due in 32 bits exactly at the instants first + k * period
    pub due_at : (t : ℕ) → DueAt run i t ↔ IsRelease o t
    unfolding encode
    due_at t =
        let w = state course i t in
        let m = encodable_after k stolen t in
        let b = m.acceptable_then.bounded i (rw (states_length m) s.inside) in
        let sound = k.sound i s.inside in
        let period_is : w.planned.period ≡ (get_or ps i no_plan_row).period = ap (λ (x : Object). x.period) (planned_at m i s.inside) in
        let d = release_due course k.acceptable_then i place t in
        rw (row_of t, clock_at t) (
          λ e. (release_same t).0 (d.0 (wrap_same (from + t) w.next b.next_from (omega arith) e)),
          λ p. ap (λ (n : ℕ). n % 2 ^ 32) (d.1 ((release_same t).1 p)),
        )

    pub reads_at : (t : ℕ)
        → reading_of (run t) o.plan.id ≡ true_reading (true_age (from + t) (state course i t).value) o.plan.validity
    reads_at t = rw (run_history k stolen t) (rw s.plan_is at (reading_true (encodable_after k stolen t) i s.inside))

    module _ (planned : PlannedRows ps) (b e : ℕ) (q : NothingLeft (run b)) (given : Unstolen stolen b e) where
      kept : KeptInHistory course i b e
      kept = kept_in_history course ps k.objects_are planned k.acceptable_then b e (nothing_quiet b q) given i s.inside

      pub promised : Promised run i o b e
      unfolding encode
      promised =
          let deadline_is : (plan_at course i).deadline ≡ o.plan.deadline = ap (λ (x : Object). x.deadline) plan_at_law in
          let period_is : (plan_at course i).period ≡ o.plan.period = ap (λ (x : Object). x.period) plan_at_law in
          let validity_is : (plan_at course i).validity ≡ o.plan.validity = ap (λ (x : Object). x.validity) plan_at_law in
          let sound : Sound o.plan = rw s.plan_is at (k.sound i s.inside) in
          record {
            begins = λ r x l u.
                let z : (run_row (run r) i).left ≡ 0 = rw (row_of r) (kept.each_release r ((release_same r).1 x) l u).clear in
                (z, begins_due (run r).clock (run_row (run r) i) ((due_at r).1 x) z);
            in_time = λ r x l t p y u.
                let m = (kept.each_release r ((release_same r).1 x) l (omega arith)).done t (omega arith) (omega arith) u in
                let young : from + t - (from + r) < o.plan.validity = omega arith in
                rw (row_of t, clock_at r, m.1, lt-leb o.plan.validity (from + t - (from + r)) young) (m.0, refl);
            no_skip = λ t l u. rw (row_of t, row_of b) (ap (λ (n : ℕ). min n 4294967295) (kept.no_skip t l u));
            fresh = λ t l u.
                let f = kept.fresh t (omega arith) u in
                let age = from + t - f.0 in
                let young : age < o.plan.validity = omega arith in
                (age, rw (reads_at t, f.1, lt-ltb age o.plan.validity young), young);
          }
