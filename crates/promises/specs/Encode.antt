-- What a state of the theory looks like in 32 bits, and which state a run is handed in with: what a reader has to believe of the tie.
-- Assumes nothing. `now` is a true instant, and its clock value is its rest by 2^32.
use Rattle.std.specs.Prelude.{ℕ, ◌+◌, ◌-◌, ◌%◌, ◌^◌, min, Bool, false, cond, List, [], ◌∷◌, ◌++◌, map, eqb, leb, length, drop, get_or, replicate}
use Rattle.std.proofs.Math.Option.{Option, none, some}
use Rattle.rules.specs.declared.PlanRow.{PlanRow}
use Rattle.rules.specs.declared.RunRow.{RunRow}
use Rattle.rules.specs.declared.Run.{Run}
use Rattle.rules.specs.declared.Stored.{Stored}
use Rattle.rules.specs.declared.Stored.TheVariants.{Empty, Held, Lapsed}
use Rattle.rules.specs.declared.Table.{Table}
use Rattle.rules.specs.Deadlines.{plan_of, planned_rows}
use Rattle.rules.specs.RunState.{age_of, due_in, used_rows}
use Rattle.rules.specs.Run.{no_run_row, stored_as}
use Rattle.theory.specs.Model.{Object, State, Course}
use Rattle.theory.specs.Start.{starts}

-- a planned row as an object of the theory
abbrev pub object_of : PlanRow → Object
object_of p = record { cost = p.cost; validity = p.validity; deadline = p.deadline; period = p.period; hold = p.hold }

-- a course of these states from the instant `from` on. A work of 0 is outside 1 to the cost, so it stands for the cost
abbrev pub course_from : ℕ → List State → (ℕ → Bool) → Course
course_from from ws stolen = record { from = from; begin = ws; works = λ i t. 0; stolen = stolen }

-- ── A state in 32 bits ──

-- "that job's sample instant": "a job with no work left has sample 0"
abbrev pub sample_of : ℕ → ℕ → ℕ
sample_of left p = cond (eqb left 0) 0 (p % 2 ^ 32)

-- "whether that sample has lapsed": its true age has reached the validity v; "and not lapsed" with no work left
abbrev pub lapsed_of : ℕ → ℕ → ℕ → ℕ → Bool
lapsed_of now v left p = cond (eqb left 0) false (leb v (now - p))

-- "the stored value (none, held with its sample instant, or lapsed)": lapsed once its true age has reached the validity v
abbrev pub stored_of : ℕ → ℕ → Option ℕ → Stored
stored_of now v none = Empty
stored_of now v (some p) = stored_as (leb v (now - p)) (p % 2 ^ 32)

-- the state of an object at the instant `now` as a row of a run, its skips "stopping at 4,294,967,295"
unfoldable pub encode : ℕ → PlanRow → State → RunRow
encode now plan w =
    record {
      planned = plan;
      next = w.next % 2 ^ 32;
      left = w.left;
      sample = sample_of w.left w.sample;
      lapsed = lapsed_of now plan.validity w.left w.sample;
      stored = stored_of now plan.validity w.value;
      skips = min w.skips 4294967295;
    }

unfoldable pub encodes : ℕ → List PlanRow → List State → List RunRow
unfolding encode
encodes now [] ws = []
encodes now (p ∷ ps) [] = []
encodes now (p ∷ ps) (w ∷ ws) = encode now p w ∷ encodes now ps ws

-- the states of objects planned so as a run, where `beyond` are the rows beyond the count
unfoldable pub encode_run : List PlanRow → List RunRow → ℕ → List State → Run
unfolding encodes
encode_run ps beyond now ws = record { clock = now % 2 ^ 32; count = length ps; rows = encodes now ps ws ++ beyond }

-- ── A started run ──

-- its rows beyond the count; its states at the instant `clock`, with first releases counted from there; and its course
abbrev pub spare : List PlanRow → List RunRow
spare ps = replicate (64 - length ps) no_run_row

abbrev pub start_states : ℕ → List PlanRow → List ℕ → List State
start_states clock ps firsts = starts clock (map object_of ps) (λ i. get_or firsts i 0)

abbrev pub start_course : Table → ℕ → List ℕ → (ℕ → Bool) → Course
start_course table clock firsts stolen = course_from clock (start_states clock (planned_rows (plan_of table).plan) firsts) stolen

-- ── The state that a run is handed in with ──

-- an instant with this clock value, so late that every sample has an instant before it, however old
abbrev pub from_of : ℕ → ℕ
from_of clock = 2 ^ 33 + clock

-- the instant of a sample: its age modulo 2^32 back, and once more round the clock where it has lapsed
abbrev pub sampled_in : ℕ → Bool → ℕ → ℕ
sampled_in clock lapsed s = cond lapsed (from_of clock - age_of clock s - 2 ^ 32) (from_of clock - age_of clock s)

-- the instant of a stored value; nothing tells that of one that has lapsed, so it is once round the clock old, above any validity
abbrev pub value_in : ℕ → Stored → Option ℕ
value_in clock Empty = none
value_in clock Lapsed = some (from_of clock - 2 ^ 32)
value_in clock (Held s) = some (sampled_in clock false s)

-- a row as a state at that instant, its actual work the cost where work is left
unfoldable pub decode : ℕ → RunRow → State
decode clock row =
    record {
      planned = object_of row.planned;
      next = from_of clock + due_in clock row.next;
      left = row.left;
      work = cond (eqb row.left 0) 0 row.planned.cost;
      sample = cond (eqb row.left 0) 0 (sampled_in clock row.lapsed row.sample);
      value = value_in clock row.stored;
      skips = row.skips;
    }

-- its rows beyond the count, the states of its objects, and its course from here on
abbrev pub beyond : Run → List RunRow
beyond run = drop run.count run.rows

abbrev pub states_at : Run → List State
states_at run = map (decode run.clock) (used_rows run)

abbrev pub course_of : Run → (ℕ → Bool) → Course
course_of run stolen = course_from (from_of run.clock) (states_at run) stolen
