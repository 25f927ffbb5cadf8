-- The theorems in document 01's words, where no slot is stolen. InTime.antt and Recovery.antt have them with stolen slots; Busy.antt has
-- what a window can bring and what holds can take of it; Releases.antt and Prefix.antt have due instants, samples, same ahead, same states.
-- Assumes that the states at the beginning are acceptable, and what each statement says.
use Rattle.std.specs.Prelude.{ℕ, suc, ◌+◌, ◌≤◌, ◌<◌, ◌≡◌, false, length, take}
use Rattle.std.proofs.Common.{arith}
use Rattle.theory.specs.Model.{at, Course, history, state, step_one, plans_of, plan_at, left_sum, Quiet, FreshAt, Unstolen, holders}
use Rattle.theory.specs.Model.{Acceptable, cost_sum, need_of, Planned}
use Rattle.theory.proofs.Slot.{left_split, slot_unit}
use Rattle.theory.proofs.Bounds.{stays_acceptable}
use Rattle.theory.specs.Stolen.{unstolen_within}
use Rattle.theory.specs.Releases.{ReleaseOf}
use Rattle.theory.specs.InTime.{MeetsAt, Kept}
use Rattle.theory.proofs.InTime.{meets_at, quiet_again, deadlines, no_skips, freshness}
use Rattle.theory.proofs.Recovery.{recovers}

-- ONE UNIT A SLOT. A slot that is not stolen does one unit, if work is left over or just begun.
pub one_unit : (c : Course) (t : ℕ) → c.stolen t ≡ false → 0 < left_sum (step_one c t)
    → left_sum (history c (suc t)) + 1 ≡ left_sum (step_one c t)
unfolding history
one_unit c t given h = rw given (slot_unit (c.from + t) (λ i. c.works i t) (history c t) h)

module _ (c : Course) (ok : Acceptable c.from c.begin) where
  -- AT MOST ONE HOLD. At any time at most one job is in its hold.
  pub one_hold_law : (t : ℕ) → holders (history c t) ≤ 1
  one_hold_law t = (stays_acceptable c ok t).one_hold_law

  -- AFTER A STALL. From any slot b, with no slot stolen for l slots that hold all the costs and what l slots bring, nothing is left over
  -- within them or right at their end.
  pub recovers_unstolen : (l : ℕ) → 0 < l → need_of (plans_of c) (cost_sum (plans_of c)) l ≤ l
      → (b : ℕ) → Unstolen c.stolen b (b + l) → (z : ℕ) × (b < z) × (z ≤ b + l) × Quiet (history c z)
  recovers_unstolen l pos fits b given =
      recovers c ok b l pos (omega (arith, unstolen_within c.stolen b (b + l) given b l (omega arith) (omega arith)))

  -- Of a planned object, from a slot b with nothing left over, up to a slot e before which none is stolen:
  module _ (planned : Planned (plans_of c)) (i : ℕ) (h : i < length c.begin)
      (b e : ℕ) (given : Unstolen c.stolen b e) (q : Quiet (history c b)) where
    meets : MeetsAt (λ x. 0) c i
    meets = meets_at (λ x. 0) c planned i h

    quiet_up_to : Quiet (take (suc i) (history c b))
    quiet_up_to = omega (arith, left_split (suc i) (history c b))

    -- QUIET AGAIN. The objects up to it have nothing left over again within its deadline.
    pub quiet_in_time : b + (plan_at c i).deadline ≤ e
        → (z : ℕ) × (b < z) × (z ≤ b + (plan_at c i).deadline) × Quiet (take (suc i) (history c z))
    quiet_in_time u =
        let m = meets in
        let none = unstolen_within c.stolen b (b + m.settles) (λ t x y. given t x (omega arith)) in
        let a = quiet_again (λ x. 0) c ok i h m b none quiet_up_to in
        (a.0, a.1, omega arith, a.3)

    -- IN TIME. Each update released from then on begins at once, and within its deadline its value is stored, stamped with its release.
    pub in_time : (r : ℕ) → ReleaseOf (at c.begin i) (c.from + r) → b ≤ r → r ≤ e → Kept c i r e
    in_time = deadlines (λ x. 0) c ok i h meets b e (unstolen_within c.stolen b e given) quiet_up_to

    -- NONE IS SKIPPED.
    pub none_skipped : (t : ℕ) → b ≤ t → t ≤ e → (state c i t).skips ≡ (state c i b).skips
    none_skipped = no_skips (λ x. 0) c ok i h meets b e (unstolen_within c.stolen b e given) quiet_up_to

    -- FRESH. From one validity on there is always a stored value whose true age is below the validity.
    pub always_fresh : (plan_at c i).deadline + (plan_at c i).period ≤ (plan_at c i).validity
        → (t : ℕ) → b + (plan_at c i).validity ≤ t → t ≤ e → FreshAt (state c i t) (c.from + t) (plan_at c i).validity
    always_fresh = freshness (λ x. 0) c ok i h meets b e (unstolen_within c.stolen b e given) quiet_up_to
