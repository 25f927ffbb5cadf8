-- Words: the grounds on which a start is accepted or refused: 4, 7, 8, 9 or 10 of the plan, then 11, then 12, each with its place.
-- Assumes nothing.
use Rattle.std.specs.Prelude.{ℕ, ◌<◌, ◌≡◌, ◌≢◌, List, length, get_or}
use Rattle.rules.specs.declared.PlanRow.{PlanRow}
use Rattle.rules.specs.Answers.{Planned, Verdict, Accepted, Refused}
use Rattle.rules.specs.declared.Refusal.{Refusal}
use Rattle.rules.specs.Refusals.{Told, ◌at_place◌, told}
use Rattle.rules.specs.Deadlines.{no_plan_row, planned_rows}

-- the first release of the object at place k is below its period
abbrev pub BelowPeriod : List PlanRow → List ℕ → ℕ → Type 0
BelowPeriod plans firsts k = get_or firsts k 0 < (get_or plans k no_plan_row).period

abbrev pub AllBelow : List PlanRow → List ℕ → Type 0
AllBelow plans firsts = (k : ℕ) → k < length plans → BelowPeriod plans firsts k

-- place k is the first whose first release is not
pub record FirstLate (plans : List PlanRow) (firsts : List ℕ) (k : ℕ) : Type 0 where
  pub inside : k < length plans
  pub others_below : (j : ℕ) → j < k → BelowPeriod plans firsts j
  pub it_is_not : BelowPeriod plans firsts k → ⊥

-- why a start tells what it tells, where `planned` is the plan's verdict: its refusal first, then 11, then 12
pub data StartGround (planned : Verdict) (plans : List PlanRow) (firsts : List ℕ) : Told → Type 0 where
  no_plan : {r : Refusal} {k : ℕ} → planned ≡ Refused r k → StartGround planned plans firsts (told (Refused r k))
  other_number : planned ≡ Accepted → length firsts ≢ length plans → StartGround planned plans firsts (11 at_place 0)
  late_first : {k : ℕ} → planned ≡ Accepted → length firsts ≡ length plans → FirstLate plans firsts k
      → StartGround planned plans firsts (12 at_place k)
  all_below : planned ≡ Accepted → length firsts ≡ length plans → AllBelow plans firsts → StartGround planned plans firsts (0 at_place 0)

-- the ground of an answer of a start
abbrev pub GroundOf : Planned → List ℕ → Told → Type 0
GroundOf planned firsts = StartGround planned.verdict (planned_rows planned.plan) firsts
