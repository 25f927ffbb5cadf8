-- Words: that an object meets its plan, and what a release comes to that is kept in time. Assumes nothing.
use Rattle.std.specs.Prelude.{ℕ, suc, ◌+◌, ◌≤◌, ◌≡◌, take, drop}
use Rattle.std.proofs.Math.Option.{some}
use Rattle.theory.specs.Model.{begun, release, Course, state, plans_of, plan_at}
use Rattle.theory.specs.Model.{Meets}

-- the object at place i meets its plan, with those ahead of it and those behind it
abbrev pub MeetsAt : (ℕ → ℕ) → Course → ℕ → Type 0
MeetsAt θ c i = Meets θ (take i (plans_of c)) (drop (suc i) (plans_of c)) (plan_at c i)

-- what a release of the object at place i in the slot r comes to, up to the slot e
pub record Kept (c : Course) (i r e : ℕ) : Type 0 where
  -- nothing is left over, so step 1 begins a job, sampled at the instant of the release
  pub clear : (state c i r).left ≡ 0
  pub begins : release (c.from + r) (c.works i r) (state c i r) ≡ begun (c.from + r) (c.works i r) (state c i r)
  -- from the deadline to the next release nothing is left of it and its value is stored
  pub done : (t : ℕ) → r + (plan_at c i).deadline ≤ t → t ≤ r + (plan_at c i).period → t ≤ e
      → ((state c i t).left ≡ 0) × ((state c i t).value ≡ some (c.from + r))
