-- Plans that the theorems apply to: those in which some t up to the deadline balances, and those that plan for stolen slots as for one more
-- object ahead. Assumes nothing.
use Rattle.std.specs.Prelude.{ℕ, ◌+◌, ◌≤◌, ◌<◌, ◌≡◌, List, ◌∷◌}
use Rattle.std.proofs.Common.{arith}
use Rattle.theory.specs.Model.{Object, brings, window_of, hold_behind, need_of, Meets}

-- a t that balances: in our plan the smallest one is the deadline, in the classic one and in a partner's it is at most the deadline
pub balanced_meets : (ahead behind : List Object) (o : Object) → 0 < o.cost → o.deadline ≤ o.period
    → (t : ℕ) → need_of ahead (o.cost + hold_behind behind) t ≡ t → t ≤ o.deadline → Meets (λ x. 0) ahead behind o
balanced_meets ahead behind o pos within t balances le =
    record { cost_pos = pos; within = within; settles = t; settles_le = le; fits = omega arith }

-- what is stolen can be planned for like one more object ahead (Stolen.thief_within)
pub thief_meets : (thief : Object) (ahead behind : List Object) (o : Object)
    → Meets (λ x. 0) (thief ∷ ahead) behind o → Meets (λ x. brings x thief) ahead behind o
unfolding window_of
thief_meets thief ahead behind o m =
    record { cost_pos = m.cost_pos; within = m.within; settles = m.settles; settles_le = m.settles_le; fits = omega (arith, m.fits) }
