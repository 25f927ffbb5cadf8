-- The C form of the Result of an answer: 0 at 0 beside what was asked for, or the refusal beside what stands for nothing. Assumes nothing.
-- It is the C form of the answer itself (Forms): what a refusal hands back beside number and place is always the same.
use Rattle.std.specs.Prelude.{ℕ, ⊤, cond, Result, Ok, Err}
use Rattle.rules.specs.declared.Plan.{Plan}
use Rattle.rules.specs.declared.Reading.{Reading}
use Rattle.rules.specs.declared.Reading.TheVariants.{Never, Stale, Fresh}
use Rattle.rules.specs.declared.Refused as at_place
use Rattle.rules.specs.declared.Refusal.TheVariants.{NotRunState}
use Rattle.rules.specs.declared.Run.{Run}
use Rattle.rules.specs.declared.StoredTable.{StoredTable}
use Rattle.rules.specs.declared.Table.{Table}
use Rattle.rules.specs.declared.Unstepped.{Unstepped}
use Rattle.rules.specs.Answers.{Accepted, refused_at, reading_outcome}
use Rattle.rules.specs.Refusals.{number_of}
use Rattle.rules.specs.StoredTable.{no_table, no_stored}
use Rattle.rules.specs.Deadlines.{no_plan}
use Rattle.rules.specs.Run.{no_run, reading_of}
use Rattle.channelfox.specs.declared.CPlanAnswer.{CPlanAnswer}
use Rattle.channelfox.specs.declared.CReadAnswer.{CReadAnswer}
use Rattle.channelfox.specs.declared.CReading.{CReading}
use Rattle.channelfox.specs.declared.CRun.{CRun}
use Rattle.channelfox.specs.declared.CRunAnswer.{CRunAnswer}
use Rattle.channelfox.specs.declared.CStoredAnswer.{CStoredAnswer}
use Rattle.channelfox.specs.declared.CVerdict.{CVerdict}
use Rattle.channelfox.specs.declared.CWritten.{CWritten}
use Rattle.channelfox.specs.Forms.{verdict_form, stored_table_form, run_form, run_of, all_forms}

abbrev pub refused_form : at_place.Refused → CVerdict
refused_form e = record { number = number_of e.refusal; place = e.place }

-- what was asked for with its verdict, or the refusal with what stands for nothing
abbrev pub answered : {A B : Type 0} → (CVerdict → A → B) → A → Result A at_place.Refused → B
answered form nothing (Ok x) = form (verdict_form Accepted) x
answered form nothing (Err e) = form (refused_form e) nothing

abbrev pub verdict_answered : Result ⊤ at_place.Refused → CVerdict
verdict_answered r = answered (λ v _. v) tt r

abbrev pub read_answered : Result Table at_place.Refused → CReadAnswer
read_answered r = answered (λ v t. record { verdict = v; table = t }) no_table r

abbrev pub stored_answered : Result StoredTable at_place.Refused → CStoredAnswer
stored_answered r = answered (λ v s. record { verdict = v; stored = stored_table_form s }) no_stored r

abbrev pub written_answered : Result ℕ at_place.Refused → CWritten
written_answered r = answered (λ v n. record { verdict = v; size = n }) 0 r

abbrev pub plan_answered : Result Plan at_place.Refused → CPlanAnswer
plan_answered r = answered (λ v p. record { verdict = v; plan = p }) no_plan r

abbrev pub run_answered : Result Run at_place.Refused → CRunAnswer
run_answered r = answered (λ v run. record { verdict = v; run = run_form run }) no_run r

-- a refused step hands the run back
abbrev pub step_answered : Result Run Unstepped → CRunAnswer
step_answered (Ok run) = record { verdict = verdict_form Accepted; run = run_form run }
step_answered (Err u) = record { verdict = refused_form u.refused; run = run_form u.run }

-- which value is told, and its age
abbrev pub value_form : ℕ → ℕ → CReading
value_form value age = record { verdict = verdict_form Accepted; value = value; age = age }

abbrev pub reading_answered : Result Reading at_place.Refused → CReading
reading_answered (Ok Never) = value_form 3 0
reading_answered (Ok Stale) = value_form 4 0
reading_answered (Ok (Fresh age)) = value_form 5 age
reading_answered (Err e) = record { verdict = refused_form e; value = 0; age = 0 }

-- ── What C hands in as a run ──

-- 13 where not each of its rows stands for one
abbrev pub run_taken : CRun → Result Run at_place.Refused
run_taken form = cond (all_forms form) (Ok (run_of form)) (Err (refused_at NotRunState 0))

abbrev pub value_taken : CRun → ℕ → Result Reading at_place.Refused
value_taken form id = cond (all_forms form) (reading_outcome (reading_of (run_of form) id)) (Err (refused_at NotRunState 0))
