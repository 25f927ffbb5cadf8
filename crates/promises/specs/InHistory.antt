-- What demand 3 promises in true time. Assumes nothing.
use Rattle.std.specs.Prelude.{ℕ, ◌+◌, ◌≤◌, ◌≡◌}
use Rattle.theory.specs.Model.{at, Course, state, plan_at, FreshAt}
use Rattle.theory.specs.Releases.{ReleaseOf}
use Rattle.theory.specs.InTime.{Kept}

-- what the object at place i is promised in the history, from the slot b to the slot e
pub record KeptInHistory (c : Course) (i b e : ℕ) : Type 0 where
  -- at each release nothing is left of the job before, step 1 begins one, and from its deadline to the next release nothing is left of it,
  -- and its value is stored
  pub each_release : (r : ℕ) → ReleaseOf (at c.begin i) (c.from + r) → b ≤ r → r ≤ e → Kept c i r e
  -- none is skipped
  pub no_skip : (t : ℕ) → b ≤ t → t ≤ e → (state c i t).skips ≡ (state c i b).skips
  -- from one validity on, there is a stored value whose true age is below the validity
  pub fresh : (t : ℕ) → b + (plan_at c i).validity ≤ t → t ≤ e → FreshAt (state c i t) (c.from + t) (plan_at c i).validity
