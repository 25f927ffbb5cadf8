-- The run of the rules slot by slot, and the words in which promises on runs are stated. Assumes nothing.
use Rattle.std.specs.Prelude.{ℕ, zero, suc, ◌+◌, ◌-◌, ◌*◌, ◌^◌, ◌<◌, ◌≡◌, Bool, List, [], ◌∷◌, map, length, get_or}
use Rattle.std.proofs.Math.Option.{Option, none, some}
use Rattle.rules.specs.declared.PlanRow.{PlanRow}
use Rattle.rules.specs.declared.RunRow.{RunRow}
use Rattle.rules.specs.declared.Run.{Run}
use Rattle.rules.specs.declared.Stored.TheVariants.{Held}
use Rattle.rules.specs.declared.Table.{Table}
use Rattle.rules.specs.Deadlines.{plan_of, planned_rows}
use Rattle.rules.specs.RunState.{due_in}
use Rattle.rules.specs.Run.{no_run_row, slot_of}
use Rattle.rules.proofs.Lists.{Every}

-- the run after t slots
unfoldable pub run_after : Run → (ℕ → Bool) → ℕ → Run
run_after run stolen zero = run
run_after run stolen (suc t) = slot_of (run_after run stolen t) (stolen t)

-- a run whose fields fit their words, so far as the tie depends on it: 32-bit numbers, and 64 rows
pub record Low (row : RunRow) : Type 0 where
  pub next_low : row.next < 2 ^ 32
  pub sample_low : row.sample < 2 ^ 32
  pub stored_low : (s : ℕ) → row.stored ≡ Held s → s < 2 ^ 32
  pub skips_low : row.skips < 2 ^ 32

pub record Fits (run : Run) : Type 0 where
  pub clock_low : run.clock < 2 ^ 32
  pub size : length run.rows ≡ 64
  pub rows_low : Every Low run.rows

-- the row of a run at place i, and the planned numbers of rows
abbrev pub run_row : Run → ℕ → RunRow
run_row run i = get_or run.rows i no_run_row

abbrev pub plans : List RunRow → List PlanRow
plans rows = map (λ (r : RunRow). r.planned) rows

-- a release of the object at place i is due at the instant t, counted in slots from the run's beginning
abbrev pub DueAt : (ℕ → Run) → ℕ → ℕ → Type 0
DueAt run i t = (run_row (run t) i).next ≡ (run t).clock

-- nothing is left over: "work left before step 1 of that instant"
abbrev pub NothingLeft : Run → Type 0
NothingLeft run = (i : ℕ) → i < run.count → (run_row run i).left ≡ 0

-- an object of a run: its planned numbers, and its first release counted from the run's beginning
pub record RunObject : Type 0 where
  pub plan : PlanRow
  pub first : ℕ

-- as a run goes on with it: "next release minus clock, modulo 2^32"
abbrev pub going_on : ℕ → RunRow → RunObject
going_on clock row = record { plan = row.planned; first = due_in clock row.next }

-- the objects of a table with their first releases, as the planner plans them, in priority order
abbrev pub objects_of : List PlanRow → List ℕ → List RunObject
objects_of [] fs = []
objects_of (p ∷ ps) [] = []
objects_of (p ∷ ps) (f ∷ fs) = record { plan = p; first = f } ∷ objects_of ps fs

abbrev pub objects_in : Table → List ℕ → List RunObject
objects_in table firsts = objects_of (planned_rows (plan_of table).plan) firsts

-- the instant r is one of the releases of the object
abbrev pub IsRelease : RunObject → ℕ → Type 0
IsRelease o r = (k : ℕ) × (r ≡ o.first + k * o.plan.period)

-- the true age at the instant `now` of a stored value, none where there is none
abbrev pub true_age : ℕ → Option ℕ → Option ℕ
true_age now none = none
true_age now (some p) = some (now - p)
