-- After a stall: from any slot on, how soon nothing is left over again.
-- Assumes that the states at the beginning are acceptable; no plan. Holds do not count here, since nobody is behind the whole list.
use Rattle.std.specs.Prelude.{ℕ, ◌+◌, ◌≤◌, ◌<◌, ◌≡◌, length, take}
use Rattle.std.proofs.Common.{le_refl, arith, drop_of_length-le, take_all}
use Rattle.theory.specs.Model.{Course, history, plans_of, Quiet, stolen_sum, Acceptable, hold_behind, cost_sum, need_of}
use Rattle.theory.proofs.Track.{objects_length, history_length}
use Rattle.theory.proofs.Bounds.{left_le}
use Rattle.theory.proofs.Busy.{quiet_within}

-- within any l slots that hold all the costs, what l slots bring, and what is stolen of them
pub recovers : (c : Course) → Acceptable c.from c.begin → (b l : ℕ) → 0 < l
    → need_of (plans_of c) (cost_sum (plans_of c)) l + stolen_sum c.stolen b l ≤ l
    → (z : ℕ) × (b < z) × (z ≤ b + l) × Quiet (history c z)
unfolding hold_behind
recovers c ok b l pos fits =
    let n = length c.begin in
    let os = plans_of c in
    let len : length os ≤ n = rw (objects_length c.begin) (le_refl n) in
    let all : (t : ℕ) → take n (history c t) ≡ history c t = λ t. take_all n (history c t) (rw (history_length c t) (le_refl n)) in
    let a = quiet_within c n ok b l pos (rw (all b, drop_of_length-le os len, take_all n os len) (omega (arith, left_le c ok b))) in
    (a.0, a.1, a.2, rw all at a.3)
