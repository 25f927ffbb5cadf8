-- What is promised of an acceptable run, however it came about: when releases are due, what a reading tells, and demand 3.
-- Assumes that the fields of the run fit their words, and for demand 3 that its rows are planned.
use Rattle.std.specs.Prelude.{ℕ, ◌+◌, ◌≡◌, refl, ◌↔◌, Bool, true}
use Rattle.std.proofs.Common.{ap, sym, ◌∙◌, subst}
use Rattle.std.proofs.Math.Option.{some}
use Rattle.std.proofs.Math.ListN.{get_elem?, get_or-map}
use Rattle.std.proofs.lemmas.List.{length-map}
use Rattle.rules.specs.declared.RunRow.{RunRow}
use Rattle.rules.specs.declared.Run.{Run}
use Rattle.rules.specs.RunState.{used_rows, acceptable}
use Rattle.rules.specs.Run.{no_run_row, reading_of, true_reading}
use Rattle.rules.proofs.Lists.{standing}
use Rattle.theory.specs.Model.{state, Unstolen}
use Rattle.promises.specs.Plans.{PlannedRows}
use Rattle.promises.specs.Runs.{run_after, Fits, plans, DueAt, NothingLeft, going_on, IsRelease, true_age}
use Rattle.promises.specs.Encode.{from_of, decode, states_at, course_of}
use Rattle.promises.proofs.Decode.{run_decoded, run_encodable, decoded_at}
use Rattle.promises.proofs.Demand3.{Stands, due_at, reads_at, promised}
use Rattle.promises.specs.Promises.{Promised}

module _ (run : Run) (w : Fits run) (ok : acceptable run ≡ true) (stolen : ℕ → Bool) (i : ℕ) (row : RunRow)
    (place : get_elem? (used_rows run) i ≡ some row) where
  stands : Stands (plans (used_rows run)) (from_of run.clock) (states_at run) i (going_on run.clock row)
  unfolding decode
  stands =
      let rows = used_rows run in
      let s = standing no_run_row rows i row place in
      record {
        inside = rw (length-map rows (λ (r : RunRow). r.planned)) s.0;
        plan_is = rw (get_or-map (λ (r : RunRow). r.planned) rows i no_run_row, s.1) refl;
        next_is = rw (decoded_at run.clock rows i s.0, s.1) refl;
      }

  pub row_due : (t : ℕ) → DueAt (run_after run stolen) i t ↔ IsRelease (going_on run.clock row) t
  row_due t =
      subst (λ (r : Run). DueAt (run_after r stolen) i t ↔ IsRelease (going_on run.clock row) t) (sym (run_decoded run w ok))
      (due_at (run_encodable run w ok) stolen i (going_on run.clock row) stands t)

  pub row_reads : (t : ℕ) → reading_of (run_after run stolen t) row.planned.id
      ≡ true_reading (true_age (from_of run.clock + t) (state (course_of run stolen) i t).value) row.planned.validity
  row_reads t =
      ap (λ (r : Run). reading_of (run_after r stolen t) row.planned.id) (run_decoded run w ok)
      ∙ reads_at (run_encodable run w ok) stolen i (going_on run.clock row) stands t

  pub row_promised : PlannedRows (plans (used_rows run)) → (b e : ℕ) → NothingLeft (run_after run stolen b) → Unstolen stolen b e
      → Promised (run_after run stolen) i (going_on run.clock row) b e
  row_promised planned b e q given =
      let q' = subst (λ (r : Run). NothingLeft (run_after r stolen b)) (run_decoded run w ok) q in
      subst (λ (r : Run). Promised (run_after r stolen) i (going_on run.clock row) b e) (sym (run_decoded run w ok))
      (promised (run_encodable run w ok) stolen i (going_on run.clock row) stands planned b e q' given)
