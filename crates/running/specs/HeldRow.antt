-- The row in its hold, by its place. Assumes nothing.
use Rattle.std.specs.Prelude.{◌≡◌, ℕ, ◌<◌, List, ◌==◌, slice_index_or}
use Rattle.rules.specs.declared.RunRow.{RunRow}
use Rattle.rules.specs.RunState.{in_hold}

-- of the first n rows the one at `held` is in its hold and no other; none, where `held` is not below n
abbrev pub HeldBy : ℕ → ℕ → List RunRow → Type 0
HeldBy held n rows = (i : ℕ) (d : RunRow) → i < n → in_hold (slice_index_or rows i d) ≡ (i == held)
