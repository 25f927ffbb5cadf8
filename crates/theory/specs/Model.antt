-- Updates on one core in true time: the run of document 01 with the holds of request 6 and the actual works of request 8, and the words of
-- the theorems. Assumes nothing. Instants are true ones: nothing wraps and nothing lapses. A history begins at any instant `from` and in
-- any state, so that samples may be older than it; its slots are counted from 0, and the slot t is the instant from + t.
use Rattle.std.specs.Prelude.{ℕ, zero, suc, ◌+◌, ◌-◌, ◌*◌, ◌/◌, ◌≤◌, ◌<◌, max, ◌≡◌, Bool, true, false, not, cond, ◌&&◌, ◌||◌, List, [], ◌∷◌, length, take, drop, get_or, eqb, leb, ltb}
use Rattle.std.proofs.Math.Option.{Option, none, some}

-- ── Objects and their states ──

-- an object's planned numbers and its hold
pub record Object : Type 0 where
  pub cost : ℕ
  pub validity : ℕ
  pub deadline : ℕ
  pub period : ℕ
  pub hold : ℕ

-- an object's state before a slot: its numbers, the instant of the next release, the work left of the job in hand (0 if none), that job's
-- actual work (0 if none) and the instant of its release, the sample instant of the stored value, and the number of skips
pub record State : Type 0 where
  pub planned : Object
  pub next : ℕ
  pub left : ℕ
  pub work : ℕ
  pub sample : ℕ
  pub value : Option ℕ
  pub skips : ℕ

-- what a place beyond the end reads
unfoldable pub no_object : Object
no_object = record { cost = 0; validity = 0; deadline = 0; period = 0; hold = 0 }

unfoldable pub no_state : State
unfolding no_object
no_state = record { planned = no_object; next = 0; left = 0; work = 0; sample = 0; value = none; skips = 0 }

-- place i of a list of objects, and of a list of states
abbrev pub object : List Object → ℕ → Object
object os i = get_or os i no_object

abbrev pub at : List State → ℕ → State
at ws i = get_or ws i no_state

unfoldable pub objects : List State → List Object
objects [] = []
objects (w ∷ ws) = w.planned ∷ objects ws

-- ── Step 1: releases ──

-- "the caller gives its actual work, from 1 to the cost. Outside those limits the cost itself is taken."
unfoldable pub actual : ℕ → ℕ → ℕ
actual cost given = cond (leb 1 given && leb given cost) given cost

-- "with no work left, its job begins with .. this instant as sample": at the instant `now`, where `given` is the work given
unfoldable pub begun : ℕ → ℕ → State → State
unfolding actual
begun now given w =
    let next = w.next + w.planned.period in
    let work = actual w.planned.cost given in
    record { planned = w.planned; next = next; left = work; work = work; sample = now; value = w.value; skips = w.skips }

-- "with work left, the release is skipped and the skip count goes up"; "Either way the next release is one period on."
unfoldable pub skipped : State → State
skipped w =
    let next = w.next + w.planned.period in
    let skips = suc w.skips in
    record { planned = w.planned; next = next; left = w.left; work = w.work; sample = w.sample; value = w.value; skips = skips }

-- "Each object whose release is due now"
unfoldable pub release : ℕ → ℕ → State → State
unfolding begun skipped
release now given w = cond (eqb w.next now) (cond (eqb w.left 0) (begun now given w) (skipped w)) w

-- all of them, where `given` tells the work given by place
unfoldable pub releases : ℕ → (ℕ → ℕ) → List State → List State
unfolding release
releases now given [] = []
releases now given (w ∷ ws) = release now (given 0) w ∷ releases now (λ i. given (suc i)) ws

-- ── Step 2: one unit of work ──

-- the last unit of a job: "At 0 left, the stored value becomes that job's sample"
unfoldable pub finished : State → State
finished w =
    let value = some w.sample in
    record { planned = w.planned; next = w.next; left = 0; work = 0; sample = w.sample; value = value; skips = w.skips }

unfoldable pub one_less : State → State
one_less w =
    let left = w.left - 1 in
    record { planned = w.planned; next = w.next; left = left; work = w.work; sample = w.sample; value = w.value; skips = w.skips }

-- one unit, if there is work left
unfoldable pub worked : State → State
unfolding finished one_less
worked w = cond (eqb w.left 0) w (cond (eqb w.left 1) (finished w) (one_less w))

-- how many units the job in hand has done
abbrev pub done_of : State → ℕ
done_of w = w.work - w.left

abbrev pub has_work : State → Bool
has_work w = not (eqb w.left 0)

-- in its hold: "once a job has done its first unit, .. until it has done h units", and "A hold ends with the job"
unfoldable pub in_hold : State → Bool
in_hold w = has_work w && leb 1 (done_of w) && ltb (done_of w) w.planned.hold

unfoldable pub any : (State → Bool) → List State → Bool
any p [] = false
any p (w ∷ ws) = p w || any p ws

-- who may do the unit of a slot: while a hold goes on "nothing but that job", otherwise any object with work left
abbrev pub may_work : Bool → State → Bool
may_work held = cond held in_hold has_work

-- the first of these does one unit; if there is none, the slot is idle
unfoldable pub work_first : (State → Bool) → List State → List State
unfolding worked
work_first p [] = []
work_first p (w ∷ ws) = cond (p w) (worked w ∷ ws) (w ∷ work_first p ws)

-- a stolen slot is nobody's; otherwise a job in its hold has it; otherwise the first object with work left
unfoldable pub step_two : Bool → List State → List State
unfolding in_hold any work_first
step_two stolen ws = cond stolen ws (work_first (may_work (any in_hold ws)) ws)

-- ── The history ──

-- the slot of the instant `now`
unfoldable pub slot : ℕ → (ℕ → ℕ) → Bool → List State → List State
unfolding releases step_two
slot now given stolen ws = step_two stolen (releases now given ws)

-- what decides a history: the instant at which it begins, the states then, the work given by place and slot, and which slots are stolen
pub record Course : Type 0 where
  pub from : ℕ
  pub begin : List State
  pub works : ℕ → ℕ → ℕ
  pub stolen : ℕ → Bool

-- the states before each slot
unfoldable pub history : Course → ℕ → List State
unfolding slot
history c zero = c.begin
history c (suc t) = slot (c.from + t) (λ i. c.works i t) (c.stolen t) (history c t)

-- the state at place i before the slot t, and all states after step 1 of it
abbrev pub state : Course → ℕ → ℕ → State
state c i t = at (history c t) i

abbrev pub step_one : Course → ℕ → List State
step_one c t = releases (c.from + t) (λ i. c.works i t) (history c t)

-- the objects, and the one at place i
abbrev pub plans_of : Course → List Object
plans_of c = objects c.begin

abbrev pub plan_at : Course → ℕ → Object
plan_at c i = (at c.begin i).planned

-- ── Words of the theorems ──

-- the sum of the work left; "Left over .. means work left before step 1", so nothing is left over in a quiet state
unfoldable pub left_sum : List State → ℕ
left_sum [] = 0
left_sum (w ∷ ws) = w.left + left_sum ws

abbrev pub Quiet : List State → Type 0
Quiet ws = left_sum ws ≡ 0

-- the stored value is there, and its true age at the instant `now` is below v
abbrev pub FreshAt : State → ℕ → ℕ → Type 0
FreshAt w now v = (p : ℕ) × (w.value ≡ some p) × (p ≤ now) × (now < p + v)

-- a test as a number, and the sum of f over the x slots from b on
unfoldable pub unit : Bool → ℕ
unit false = 0
unit true = 1

unfoldable pub tally : (ℕ → ℕ) → ℕ → ℕ → ℕ
tally f b zero = 0
tally f b (suc x) = tally f b x + f (b + x)

-- how many of the x slots from b on are stolen
unfoldable pub stolen_sum : (ℕ → Bool) → ℕ → ℕ → ℕ
unfolding unit tally
stolen_sum stolen b x = tally (λ t. unit (stolen t)) b x

-- no slot from b up to e is stolen; or at most θ x of any x slots in a row
abbrev pub Unstolen : (ℕ → Bool) → ℕ → ℕ → Type 0
Unstolen stolen b e = (t : ℕ) → b ≤ t → t < e → stolen t ≡ false

abbrev pub StolenWithin : (ℕ → ℕ) → (ℕ → Bool) → ℕ → ℕ → Type 0
StolenWithin θ stolen b e = (u x : ℕ) → b ≤ u → u + x ≤ e → stolen_sum stolen u x ≤ θ x

-- the number of jobs in their hold
unfoldable pub holders : List State → ℕ
unfolding in_hold unit
holders [] = 0
holders (w ∷ ws) = unit (in_hold w) + holders ws

-- what is so of an object's state at the instant `now`: the next release is due within a period, the work left is at most the actual
-- work and that at most the cost, and none is recorded where none is left
pub record Bounded (now : ℕ) (w : State) : Type 0 where
  pub next_from : now ≤ w.next
  pub next_below : w.next < now + w.planned.period
  pub left_le : w.left ≤ w.work
  pub work_le : w.work ≤ w.planned.cost
  pub at_rest : w.left ≡ 0 → w.work ≡ 0

-- no sample is later than that instant
pub record Past (now : ℕ) (w : State) : Type 0 where
  pub in_hand : 0 < w.left → w.sample ≤ now
  pub stored : (p : ℕ) → w.value ≡ some p → p ≤ now

-- states in which a run can be at that instant: a start, what any slots make of such states, or what is handed in from elsewhere
pub record Acceptable (now : ℕ) (ws : List State) : Type 0 where
  pub bounded : (i : ℕ) → i < length ws → Bounded now (at ws i)
  pub past : (i : ℕ) → i < length ws → Past now (at ws i)
  pub one_hold_law : holders ws ≤ 1

-- ── Plans ──

-- "t divided by the period, rounded up"
abbrev pub ceiling : ℕ → ℕ → ℕ
ceiling t p = (t + (p - 1)) / p

-- the most work of one object, and of a list of them, that t slots can bring
abbrev pub brings : ℕ → Object → ℕ
brings t o = ceiling t o.period * o.cost

unfoldable pub window_of : List Object → ℕ → ℕ
window_of [] t = 0
window_of (o ∷ os) t = brings t o + window_of os t

-- "the largest (h minus 1) among objects behind it (0 if none)": so long can a job of these keep the core once it has begun
unfoldable pub hold_behind : List Object → ℕ
hold_behind [] = 0
hold_behind (o ∷ os) = max (o.hold - 1) (hold_behind os)

unfoldable pub cost_sum : List Object → ℕ
cost_sum [] = 0
cost_sum (o ∷ os) = o.cost + cost_sum os

-- what an object needs within t slots, where `own` is its cost and the longest hold behind it
abbrev pub need_of : List Object → ℕ → ℕ → ℕ
need_of ahead own t = own + window_of ahead t

-- the least that the theorems ask of an object's numbers, where at most θ t of any t slots are stolen:
-- some t up to the deadline holds what the object needs and what is stolen
pub record Meets (θ : ℕ → ℕ) (ahead behind : List Object) (o : Object) : Type 0 where
  pub cost_pos : 0 < o.cost
  pub within : o.deadline ≤ o.period
  pub settles : ℕ
  pub settles_le : settles ≤ o.deadline
  pub fits : need_of ahead (o.cost + hold_behind behind) settles + θ settles ≤ settles

abbrev pub PlannedFor : (ℕ → ℕ) → List Object → Type 0
PlannedFor θ os = (i : ℕ) → i < length os → Meets θ (take i os) (drop (suc i) os) (object os i)

-- no slot is stolen
abbrev pub Planned : List Object → Type 0
Planned os = PlannedFor (λ t. 0) os
