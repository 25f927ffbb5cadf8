-- Document 01's answers: accepted, or "refused N at K", and what is handed back beside it, which is fixed for a refusal too. A function
-- answers a Result: what was asked for, or the refusal with its place. `outcome` is the Result that belongs to an answer; what a refusal hands
-- back beside number and place, the C library fills in.
-- Assumes nothing.
use Rattle.std.specs.Prelude.{ℕ, ⊤, Result, Ok, Err}
use Rattle.rules.specs.declared.Table.{Table}
use Rattle.rules.specs.declared.StoredTable.{StoredTable}
use Rattle.rules.specs.declared.Plan.{Plan}
use Rattle.rules.specs.declared.Run.{Run}
use Rattle.rules.specs.declared.Reading.TheVariants as value
use Rattle.rules.specs.declared.Reading as value_read
use Rattle.rules.specs.declared.Refusal.{Refusal}
use Rattle.rules.specs.declared.Refused as refused
use Rattle.rules.specs.declared.Unstepped.{Unstepped}
use Rattle.rules.specs.Readings as reading

-- ── What is answered ──

-- accepted, or refused, with the place
pub data Verdict : Type 0 where
  Accepted : Verdict
  Refused : Refusal → ℕ → Verdict

-- "A refused read hands back a table with count 0 and every field zero"
pub record ReadTable : Type 0 where
  pub verdict : Verdict
  pub table : Table

-- no form, an empty table and first releases of 0
pub record ReadStored : Type 0 where
  pub verdict : Verdict
  pub stored : StoredTable

-- how many bytes were written; 0 where refused
pub record Written : Type 0 where
  pub verdict : Verdict
  pub size : ℕ

-- "a refused table hands back a plan with count 0 and every field zero"
pub record Planned : Type 0 where
  pub verdict : Verdict
  pub plan : Plan

-- "A refused start hands back a run with count 0 and every field zero or none"
pub record Started : Type 0 where
  pub verdict : Verdict
  pub run : Run

-- "A refused step leaves the run exactly as it came in."
pub record Stepped : Type 0 where
  pub verdict : Verdict
  pub run : Run

-- ── The Result of an answer ──

abbrev pub refused_at : Refusal → ℕ → refused.Refused
refused_at r k = record { refusal = r; place = k }

-- what was asked for, or the refusal
abbrev pub outcome : {A : Type 0} → Verdict → A → Result A refused.Refused
outcome Accepted x = Ok x
outcome (Refused r k) x = Err (refused_at r k)

-- nothing is asked for but the verdict
abbrev pub checked : Verdict → Result ⊤ refused.Refused
checked v = outcome v tt

abbrev pub read_outcome : ReadTable → Result Table refused.Refused
read_outcome a = outcome a.verdict a.table

abbrev pub stored_outcome : ReadStored → Result StoredTable refused.Refused
stored_outcome a = outcome a.verdict a.stored

abbrev pub written_outcome : Written → Result ℕ refused.Refused
written_outcome a = outcome a.verdict a.size

abbrev pub plan_outcome : Planned → Result Plan refused.Refused
plan_outcome a = outcome a.verdict a.plan

abbrev pub start_outcome : Started → Result Run refused.Refused
start_outcome a = outcome a.verdict a.run

-- a refused step hands the run back too
abbrev pub kept_or : Verdict → Run → Result Run Unstepped
kept_or Accepted run = Ok run
kept_or (Refused r k) run = Err (record { refused = refused_at r k; run = run })

abbrev pub step_outcome : Stepped → Result Run Unstepped
step_outcome a = kept_or a.verdict a.run

abbrev pub reading_outcome : reading.Reading → Result value_read.Reading refused.Refused
reading_outcome reading.Never = Ok value.Never
reading_outcome reading.Stale = Ok value.Stale
reading_outcome (reading.Fresh age) = Ok (value.Fresh age)
reading_outcome (reading.Refused r k) = Err (refused_at r k)
