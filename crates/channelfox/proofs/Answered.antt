-- The C form of the Result of an answer is that of the answer, since what a refusal hands back is always the same. Assumes nothing.
use Rattle.std.specs.Prelude.{ℕ, ◌≡◌, refl, Bool, true, false, cond, List, [], ◌∷◌, ◌++◌, leb, length, Option, Ok, Err}
use Rattle.std.proofs.Common.{arith}
use Rattle.std.proofs.Math.Option as found
use Rattle.std.proofs.Math.Option.{none, some}
use Rattle.rules.specs.declared.Form.{Form}
use Rattle.rules.specs.declared.ObjectRow.{ObjectRow}
use Rattle.rules.specs.declared.PlanRow.{PlanRow}
use Rattle.rules.specs.declared.Refusal.TheVariants.{NoDeadline, NotRunState, TooLong}
use Rattle.rules.specs.declared.Refused as at_place
use Rattle.rules.specs.declared.Run.{Run}
use Rattle.rules.specs.declared.StoredTable.{StoredTable}
use Rattle.rules.specs.declared.Table.{Table}
use Rattle.rules.specs.Answers.{checked, refused_at, Verdict, Accepted, Refused, Planned, ReadStored, Stepped, read_outcome, written_outcome, plan_outcome, step_outcome, reading_outcome}
use Rattle.rules.specs.Readings.{Reading}
use Rattle.rules.specs.Readings as reading
use Rattle.rules.specs.StoredTable.{most_bytes, refused_read, table_verdict, answer}
use Rattle.rules.specs.Sheet.{Lines, all_rows, bad_line, lines_of, lines_answer, import_of}
use Rattle.rules.specs.Writing.{told_of, bytes_of, write_verdict, written_of}
use Rattle.rules.specs.Converting.{converted_from, convert_verdict, converted_of}
use Rattle.rules.specs.Order.{in_order}
use Rattle.rules.specs.Deadlines.{plan_by, where_found, smallest_within, own_of, refused_plan, on_accepted, plan_of}
use Rattle.rules.specs.HalfHalf.{classic_of}
use Rattle.rules.specs.Run.{stepped_of, advanced_of, reading_of}
use Rattle.channelfox.specs.Forms.{verdict_form, read_form, run_form, written_form, plan_form, planned_stored, stepped_form, slot_form, advance_form, reading_form, read_value_form, run_of, all_forms}
use Rattle.channelfox.specs.declared.CRun.{CRun}
use Rattle.channelfox.specs.Answered.{refused_form, verdict_answered, run_taken, value_taken, read_answered, written_answered, plan_answered, step_answered, reading_answered}

-- ── Tables ──

read_same : (v : Verdict) (table : Table) → read_answered (read_outcome (answer v table)) ≡ read_form (answer v table)
read_same Accepted table = refl
read_same (Refused r k) table = refl

lines_same : (lines : Lines) → read_answered (read_outcome (lines_answer lines)) ≡ read_form (lines_answer lines)
lines_same (all_rows rows) = read_same _ _
lines_same (bad_line k) = refl

pub import_same : (s : List ℕ) → read_answered (read_outcome (import_of s)) ≡ read_form (import_of s)
import_same s = by_size (leb (length s) most_bytes)
  where
    by_size : (b : Bool) → read_answered (read_outcome (cond b (lines_answer (lines_of s)) (refused_read TooLong 0))) ≡ read_form (cond b (lines_answer (lines_of s)) (refused_read TooLong 0))
    by_size true = lines_same (lines_of s)
    by_size false = refl

-- ── Bytes ──

told_same : (v : Verdict) (bytes : List ℕ) → written_answered (written_outcome (told_of v bytes)) ≡ written_form (told_of v bytes)
told_same Accepted bytes = refl
told_same (Refused r k) bytes = refl

pub written_same : (stored : StoredTable) (size : ℕ) → written_answered (written_outcome (written_of stored size)) ≡ written_form (written_of stored size)
written_same stored size = told_same (write_verdict stored size) (bytes_of stored)

pub converted_same : (from : Option Form) (s : List ℕ) (size : ℕ) → written_answered (written_outcome (converted_of from s size)) ≡ written_form (converted_of from s size)
converted_same from s size = told_same (convert_verdict from s size) (bytes_of (converted_from from s))

-- ── Plans ──

abbrev pub PlanSame : Planned → Type 0
PlanSame p = plan_answered (plan_outcome p) ≡ plan_form p

by_same : (make : ObjectRow → ℕ → PlanRow) (ahead : List PlanRow) (rows : List ObjectRow) → PlanSame (plan_by make ahead rows)
by_same make ahead [] = refl
by_same make ahead (r ∷ rs) = by_found (smallest_within ahead (own_of r rs) _) _ (λ t. by_same make (ahead ++ (make r t ∷ [])) rs)
  where
    by_found : (o : found.Option ℕ) (f : ℕ → Planned) → ((t : ℕ) → PlanSame (f t)) → PlanSame (where_found o f (refused_plan NoDeadline (length ahead)))
    by_found none f said = refl
    by_found (some t) f said = said t

on_same : (v : Verdict) (p : Planned) → PlanSame p → PlanSame (on_accepted v p)
on_same Accepted p h = h
on_same (Refused r k) p h = refl

pub plan_same : (table : Table) → PlanSame (plan_of table)
plan_same table = on_same (table_verdict table) _ (by_same _ [] (in_order table.rows table.count))

pub classic_same : (table : Table) → PlanSame (classic_of table)
classic_same table = on_same (table_verdict table) _ (by_same _ [] (in_order table.rows table.count))

pub planned_stored_same : (a : ReadStored) → PlanSame (planned_stored a)
planned_stored_same a = on_same a.verdict _ (plan_same a.stored.table)

-- ── Runs ──

checked_same : (v : Verdict) → verdict_answered (checked v) ≡ verdict_form v
checked_same Accepted = refl
checked_same (Refused r k) = refl

step_same : (s : Stepped) → step_answered (step_outcome s) ≡ stepped_form s
step_same s = by_verdict s.verdict s.run
  where
    by_verdict : (v : Verdict) (run : Run) → step_answered (step_outcome (record { verdict = v; run = run })) ≡ stepped_form (record { verdict = v; run = run })
    by_verdict Accepted run = refl
    by_verdict (Refused r k) run = refl

reading_same : (x : Reading) → reading_answered (reading_outcome x) ≡ reading_form x
reading_same reading.Never = refl
reading_same reading.Stale = refl
reading_same (reading.Fresh age) = refl
reading_same (reading.Refused r k) = refl

-- ── What C hands in as a run ──

taken : {A B : Type 0} (b : Bool) (x : A) (e : B) {y : A} → Ok y ≡ cond b (Ok x) (Err e) → (b ≡ true) × (x ≡ y)
taken true x e h = (refl, cc)
taken false x e h = let z : ◌≡◌ {A = ℕ} 0 1 = cc in absurd (omega arith)

not_taken : {A B : Type 0} (b : Bool) (x : A) (e : B) {f : B} → Err f ≡ cond b (Ok x) (Err e) → (b ≡ false) × (e ≡ f)
not_taken true x e h = let z : ◌≡◌ {A = ℕ} 0 1 = cc in absurd (omega arith)
not_taken false x e h = (refl, cc)

module _ (form : CRun) {run : Run} (e : Ok run ≡ run_taken form) where
  pub slot_taken : (stolen : Bool) → (run_form (stepped_of run stolen).run ≡ (slot_form form stolen).run) × (verdict_answered (checked (stepped_of run stolen).verdict) ≡ (slot_form form stolen).verdict)
  unfolding slot_form
  slot_taken stolen =
      let t = taken (all_forms form) (run_of form) (refused_at NotRunState 0) e in
      rw (t.0, t.1) (refl, checked_same (stepped_of run stolen).verdict)

  pub advance_taken : (stolen : List ℕ) → step_answered (step_outcome (advanced_of run stolen)) ≡ advance_form form stolen
  unfolding advance_form
  advance_taken stolen = let t = taken (all_forms form) (run_of form) (refused_at NotRunState 0) e in rw (t.0, t.1) (step_same (advanced_of run stolen))

module _ (form : CRun) {refused : at_place.Refused} (e : Err refused ≡ run_taken form) where
  pub slot_kept : (stolen : Bool) → (form ≡ (slot_form form stolen).run) × (refused_form refused ≡ (slot_form form stolen).verdict)
  unfolding slot_form
  slot_kept stolen = let t = not_taken (all_forms form) (run_of form) (refused_at NotRunState 0) e in rw (t.0, ← t.1) (refl, refl)

  pub advance_kept : (stolen : List ℕ) → record { verdict = refused_form refused; run = form } ≡ advance_form form stolen
  unfolding advance_form
  advance_kept stolen = let t = not_taken (all_forms form) (run_of form) (refused_at NotRunState 0) e in rw (t.0, ← t.1)

pub value_same : (form : CRun) (id : ℕ) → reading_answered (value_taken form id) ≡ read_value_form form id
unfolding read_value_form
value_same form id = by_form (all_forms form)
  where
    by_form : (b : Bool) → reading_answered (cond b (reading_outcome (reading_of (run_of form) id)) (Err (refused_at NotRunState 0))) ≡ cond b (reading_form (reading_of (run_of form) id)) (reading_form (reading.Refused NotRunState 0))
    by_form true = reading_same (reading_of (run_of form) id)
    by_form false = refl
