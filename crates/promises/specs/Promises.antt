-- The promises of demands 2 and 3, each in full, on one page; `kept : Promises` in proofs/Kept.antt proves them. Demand 1 is in the contracts.
-- Assumes nothing but what each statement says. Promises/Words.antt tells where each word is defined: those of document 01 in crate
-- `rules`, the history, its run in true time, in crate `theory`; `run_after run stolen t` is the run of the rules after t slots.
pub mod Words
use Rattle.std.specs.Prelude.{ℕ, suc, ◌+◌, ◌^◌, ◌≤◌, ◌<◌, ◌≡◌, ◌↔◌, ◌⊎◌, Bool, true, false, List, [], map, length, take, drop, get_or}
use Rattle.std.proofs.Math.Option.{some}
use Rattle.std.proofs.Math.ListN.{get_elem?}
use Words.*
use Rattle.rules.specs.Readings as reading

-- ── Demand 2 ──

pub record OfTable (table : Table) : Type 0 where
  -- THE ORDER. The places in use, sorted, each once and no other; no other list of places is so, where the ids differ.
  pub order : Ordered table.rows table.count (places_in table)
  pub only_order : IdsDiffer table → (ps : List ℕ) → Ordered table.rows table.count ps → ps ≡ places_in table
  -- THE DEADLINE is the smallest number of slots that covers the object's own cost, the longest hold behind it and all releases ahead of
  -- it, at most half the validity; the period is validity minus deadline.
  pub deadline : (plan_of table).verdict ≡ Accepted → (i : ℕ) → i < table.count
      → PlannedBetween (take i (plans_in table)) (get_or (ordered table) i no_row) (drop (suc i) (ordered table))
      (get_or (plans_in table) i no_plan_row)
  -- REFUSED EXACTLY. A well-formed table is planned or refused with 10, and 10 is told at a place exactly if the table is well-formed and
  -- the object there is the first, in priority order, without a deadline within half its validity.
  pub planned_or_10 : table_verdict table ≡ Accepted
      → ((plan_of table).verdict ≡ Accepted) ⊎ ((k : ℕ) × (told (plan_of table).verdict ≡ 10 at_place k))
  pub ten_exactly : (k : ℕ)
      → (told (plan_of table).verdict ≡ 10 at_place k) ↔ ((table_verdict table ≡ Accepted) × FirstWithout [] (ordered table) k)
  -- STARTED EXACTLY if it is planned, there are as many first releases as objects and each is below its period; otherwise refused on the
  -- first ground: the plan's refusal, 11 at 0, 12 at the first place whose first release is not below.
  pub start_exactly : (clock : ℕ) (firsts : List ℕ) (n : Told)
      → (told (start_of table clock firsts).verdict ≡ n) ↔ GroundOf (plan_of table) firsts n

-- ── Demand 3 ──

-- what the object o at place i is promised of a run from the instant b to the instant e; its releases are those at first + k · period
pub record Promised (run : ℕ → Run) (i : ℕ) (o : RunObject) (b e : ℕ) : Type 0 where
  -- at each release nothing is left of the job before, and step 1 begins a job, sampled at the release
  pub begins : (r : ℕ) → IsRelease o r → b ≤ r → r ≤ e
      → ((run_row (run r) i).left ≡ 0) × (released_of (run r).clock (run_row (run r) i) ≡ begun_of (run r).clock (run_row (run r) i))
  -- it finishes within its deadline: from then to the next release nothing is left of it, and its value is stored
  pub in_time : (r : ℕ) → IsRelease o r → b ≤ r → (t : ℕ) → r + o.plan.deadline ≤ t → t ≤ r + o.plan.period → t ≤ e
      → ((run_row (run t) i).left ≡ 0) × ((run_row (run t) i).stored ≡ Held (run r).clock)
  -- none is skipped
  pub no_skip : (t : ℕ) → b ≤ t → t ≤ e → (run_row (run t) i).skips ≡ (run_row (run b) i).skips
  -- from one validity interval on it is fresh
  pub fresh : (t : ℕ) → b + o.plan.validity ≤ t → t ≤ e
      → (age : ℕ) × (reading_of (run t) o.plan.id ≡ reading.Fresh age) × (age < o.plan.validity)

-- of the object o at place i in every run, whatever slots are stolen and however often the clock wraps; c is its course in true time
pub record InEveryRun (run : ℕ → Run) (c : Course) (i : ℕ) (o : RunObject) : Type 0 where
  -- FRESH IS TRUE. A reading is fresh exactly while there is a value whose true age is below the validity, and tells that age.
  pub fresh_is_true : (t : ℕ)
      → reading_of (run t) o.plan.id ≡ true_reading (true_age (c.from + t) (state c i t).value) o.plan.validity
  -- That value, and the sample in hand, is of a release before t. Releases are due at first + k · period and at no other instant.
  pub stored_sample : (t p : ℕ) → (state c i t).value ≡ some p → (r : ℕ) × (p ≡ c.from + r) × (r < t) × IsRelease o r
  pub sample_in_hand : (t : ℕ) → 0 < (state c i t).left → (r : ℕ) × ((state c i t).sample ≡ c.from + r) × (r < t) × IsRelease o r
  pub due : (t : ℕ) → DueAt run i t ↔ IsRelease o t

-- the run after t slots of a table that is started
abbrev pub run_of : Table → ℕ → List ℕ → (ℕ → Bool) → ℕ → Run
run_of table clock firsts stolen = run_after (start_of table clock firsts).run stolen

pub record OfStart (table : Table) (clock : ℕ) (firsts : List ℕ) : Type 0 where
  -- NEVER 13. A started run is acceptable, so what is said below of such runs is true of it: no call is refused.
  pub never_13 : Fits (start_of table clock firsts).run × (acceptable (start_of table clock firsts).run ≡ true)
  -- TIE. The run after t slots is the history at t in 32 bits: clock, next release, work left, sample, lapse marks, stored value, skips.
  pub tie : (stolen : ℕ → Bool) (t : ℕ) → run_of table clock firsts stolen t
      ≡ encode_run (plans_in table) (spare (plans_in table)) (clock + t) (history (start_course table clock firsts stolen) t)
  pub in_every_run : (stolen : ℕ → Bool) (i : ℕ) (o : RunObject) → get_elem? (objects_in table firsts) i ≡ some o
      → InEveryRun (run_of table clock firsts stolen) (start_course table clock firsts stolen) i o
  -- DEMAND 3 from any instant b with nothing left over, up to any instant e before which no slot is stolen.
  pub demand_3 : (stolen : ℕ → Bool) (b e : ℕ) → NothingLeft (run_of table clock firsts stolen b) → Unstolen stolen b e
      → (i : ℕ) (o : RunObject) → get_elem? (objects_in table firsts) i ≡ some o → Promised (run_of table clock firsts stolen) i o b e

-- of a start from stored bytes of either form (request 7)
pub record OfStored (s : List ℕ) (clock : ℕ) : Type 0 where
  -- STARTED AS READ. Where the bytes read, it is the start of the table that was read, with the first releases in priority order: so what
  -- is promised above of a start is promised of it, demand 3 included.
  pub as_read : (read_of s).verdict ≡ Accepted
      → start_stored_of s clock ≡ start_of (read_of s).stored.table clock (firsts_in_order (read_of s).stored)
  -- The object at place i in priority order has the first release of its own record, the record k with its id.
  pub first_release : (read_of s).verdict ≡ Accepted → (i k : ℕ) → i < count_of s → k < count_of s
      → (get_or (ordered (read_of s).stored.table) i no_row).id ≡ (row_of s (record_at s k)).id
      → get_or (firsts_in_order (read_of s).stored) i 0 ≡ first_at (form_of s) s (record_at s k)
  -- STARTED EXACTLY if the bytes read and what was read is started; otherwise refused on the first ground: the refusal of reading, then
  -- the plan's, then 12 at the first place in priority order. Bytes that read are started, or refused with 10 or 12 and no other number.
  pub start_exactly : (n : Told) → (told (start_stored_of s clock).verdict ≡ n) ↔ StoredGround (read_of s) n
  pub started_or_refused : (read_of s).verdict ≡ Accepted → let n = told (start_stored_of s clock).verdict in
      (n ≡ 0 at_place 0) ⊎ ((k : ℕ) × ((n ≡ 10 at_place k) ⊎ (n ≡ 12 at_place k)))

-- of an acceptable run, however it came about: the ages of its samples are taken on trust
pub record OfRun (run : Run) : Type 0 where
  -- A SLOT is the three steps on the rows in use, and keeps the run acceptable.
  pub slot : (stolen : Bool) → (stepped_of run stolen ≡ stepped (slot_of run stolen))
      × (used_rows (slot_of run stolen) ≡ step_three (tick run.clock) (step_two stolen (step_one run.clock (used_rows run))))
      × Fits (slot_of run stolen) × (acceptable (slot_of run stolen) ≡ true)
  -- CALLS of `slot` and `advance`, each on the run that the one before handed back: the run after so many slots, none refused.
  pub calls : (cs : List Call) → calls_of run cs ≡ stepped (run_after run (stolen_by cs) (slots_in cs))
  -- TIE. The run after t slots is, in 32 bits, the history at t of the states that it was handed in with; a reading tells their true ages.
  pub tie : (stolen : ℕ → Bool) (t : ℕ) → run_after run stolen t
      ≡ encode_run (plans (used_rows run)) (beyond run) (from_of run.clock + t) (history (course_of run stolen) t)
  pub fresh_is_true : (stolen : ℕ → Bool) (i : ℕ) (row : RunRow) → get_elem? (used_rows run) i ≡ some row → (t : ℕ)
      → reading_of (run_after run stolen t) row.planned.id
      ≡ true_reading (true_age (from_of run.clock + t) (state (course_of run stolen) i t).value) row.planned.validity
  -- Releases are due one period after another, the first of them counted from the clock.
  pub due : (stolen : ℕ → Bool) (i : ℕ) (row : RunRow) → get_elem? (used_rows run) i ≡ some row
      → (t : ℕ) → DueAt (run_after run stolen) i t ↔ IsRelease (going_on run.clock row) t
  -- DEMAND 3 where the rows are planned, from any instant b with nothing left over, up to any instant e before which no slot is stolen.
  pub demand_3 : PlannedRows (plans (used_rows run)) → (stolen : ℕ → Bool) (b e : ℕ) → NothingLeft (run_after run stolen b)
      → Unstolen stolen b e → (i : ℕ) (row : RunRow) → get_elem? (used_rows run) i ≡ some row
      → Promised (run_after run stolen) i (going_on run.clock row) b e

-- ── All of them ──

pub record Promises : Type 0 where
  pub of_table : (table : Table) → OfTable table
  pub of_start : (table : Table) (clock : ℕ) (firsts : List ℕ) → (start_of table clock firsts).verdict ≡ Accepted → clock < 2 ^ 32
      → OfStart table clock firsts
  pub of_stored : (s : List ℕ) (clock : ℕ) → OfStored s clock
  pub of_run : (run : Run) → Fits run → acceptable run ≡ true → OfRun run
  -- READ EXACTLY. 13 exactly if the state is not acceptable, 14 exactly if it is and no row in use has the id.
  pub reads_13 : (run : Run) (id : ℕ) → ((reading_told (reading_of run id)).refusal ≡ 13 at_place 0) ↔ (acceptable run ≡ false)
  pub reads_14 : (run : Run) (id : ℕ)
      → ((reading_told (reading_of run id)).refusal ≡ 14 at_place 0) ↔ ((acceptable run ≡ true) × NoneHas id (used_rows run))
  -- H OF 1 EVERYWHERE GIVES 01'S NUMBERS. The plan is document 01's, whose balance is the object's own cost plus the sum; and step 2 is
  -- document 01's, "the first object with work left does one unit".
  pub plan_01 : (table : Table) → HoldsOne (ordered table) → plan_of table ≡ plan01 table
  pub step_01 : (stolen : Bool) (rows : List RunRow) → Every (λ row. row.planned.hold ≡ 1) rows
      → step_two stolen rows ≡ step01 stolen rows
  -- SAME AHEAD, SAME ANSWER. Two tables that agree on the first k objects, where all objects behind have h of 1 in both, started with
  -- equal clocks, stolen slots and first releases of the first k, give each of these the same row at every instant, so the same deadline,
  -- period, starts, finishes and skips, and the same readings.
  pub same_ahead : (a b : Table) (clock : ℕ) (f g : List ℕ) → (start_of a clock f).verdict ≡ Accepted → (start_of b clock g).verdict ≡ Accepted
      → clock < 2 ^ 32 → (k : ℕ) → take k (ordered a) ≡ take k (ordered b) → HoldsOne (drop k (ordered a)) → HoldsOne (drop k (ordered b))
      → take k f ≡ take k g → (i : ℕ) (o : RunObject) → i < k → get_elem? (objects_in a f) i ≡ some o → (stolen : ℕ → Bool) (t : ℕ)
      → (run_row (run_of a clock f stolen t) i ≡ run_row (run_of b clock g stolen t) i)
      × (reading_of (run_of a clock f stolen t) o.plan.id ≡ reading_of (run_of b clock g stolen t) o.plan.id)
  -- IN TIME. What demand 3 says, in true time and for any number of planned objects, from any acceptable states and for any actual works.
  pub in_history : (c : Course) (ps : List PlanRow) → plans_of c ≡ map object_of ps → PlannedRows ps → Acceptable c.from c.begin
      → (b e : ℕ) → Quiet (history c b) → Unstolen c.stolen b e → (i : ℕ) → i < length ps → KeptInHistory c i b e
