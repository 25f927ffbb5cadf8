-- Words: the instants at which an object is released, and where the samples of a state can come from. Assumes nothing.
use Rattle.std.specs.Prelude.{ℕ, ◌+◌, ◌*◌, ◌<◌, ◌≡◌, ◌⊎◌}
use Rattle.std.proofs.Math.Option.{some}
use Rattle.theory.specs.Model.{State}

-- the instant p is the next release of a state, or any number of periods later
abbrev pub ReleaseOf : State → ℕ → Type 0
ReleaseOf w p = (k : ℕ) × (p ≡ w.next + k * w.planned.period)

-- where the samples of a state u can come from, after a state w: what was in hand or stored then, or a release
pub record Sampled (w u : State) : Type 0 where
  pub in_hand : 0 < u.left → ((0 < w.left) × (u.sample ≡ w.sample)) ⊎ ReleaseOf w u.sample
  pub stored : (p : ℕ) → u.value ≡ some p → (w.value ≡ some p) ⊎ (((0 < w.left) × (p ≡ w.sample)) ⊎ ReleaseOf w p)
