-- Jobs of planned objects end in time, for any number of objects, any holds and any actual works.
-- Assumes that the states at the beginning are acceptable, that the object meets its plan, that at most θ x of any x slots are stolen,
-- and a slot in which the objects up to it have nothing left over.
use Rattle.std.specs.Prelude.{ℕ, zero, suc, ◌+◌, ◌≤◌, ◌<◌, ◌≡◌, refl, List, [], ◌∷◌, length, take}
use Rattle.std.proofs.Common.{not-suc-le-zero, le_of_suc-le-suc, arith}
use Rattle.std.proofs.Math.Nat.{div-eq_of_lt-le}
use Rattle.std.proofs.Math.Decide.{dec_le}
use borrow.Author.Tests.{eq-eqb}
use Rattle.theory.specs.Model.{Object, State, object, at, release, Course, history, state, plans_of, plan_at, left_sum, Quiet}
use Rattle.theory.specs.Model.{FreshAt, StolenWithin, Acceptable, ceiling, brings, window_of, PlannedFor}
use Rattle.theory.proofs.Track.{track, alone_at, state_track, objects_length, objects_at, history_length}
use Rattle.theory.proofs.Busy.{quiet_within}
use Rattle.theory.specs.Releases.{ReleaseOf}
use Rattle.theory.proofs.Releases.{release_due}
use Rattle.theory.proofs.Job
use Rattle.theory.specs.InTime.{MeetsAt, Kept}

pub meets_at : (θ : ℕ → ℕ) (c : Course) → PlannedFor θ (plans_of c) → (i : ℕ) → i < length c.begin → MeetsAt θ c i
meets_at θ c pl i h = rw (objects_at c.begin i h) (pl i (rw (objects_length c.begin) h))

-- ── Nothing left over, again and again ──

-- within its deadline, which is at most its period, one job of the object's own is released at most
ceiling_one : (d p : ℕ) → 0 < d → d ≤ p → ceiling d p ≡ 1
ceiling_one d p h k = div-eq_of_lt-le p (omega arith) (omega arith)

window_suc : (os : List Object) (i : ℕ) → i < length os
    → (d : ℕ) → window_of (take (suc i) os) d ≡ window_of (take i os) d + brings d (object os i)
unfolding window_of
window_suc [] i h d = absurd (not-suc-le-zero h)
window_suc (o ∷ os) zero h d = omega arith
window_suc (o ∷ os) (suc i) h d = let ih = window_suc os i (le_of_suc-le-suc h) d in omega arith

last_left : (ws : List State) (i : ℕ) → i < length ws → (at ws i).left ≤ left_sum (take (suc i) ws)
unfolding left_sum
last_left [] i h = absurd (not-suc-le-zero h)
last_left (w ∷ ws) zero h = omega arith
last_left (w ∷ ws) (suc i) h = let ih = last_left ws i (le_of_suc-le-suc h) in omega arith

module _ (θ : ℕ → ℕ) (c : Course) (ok : Acceptable c.from c.begin) (i : ℕ) (h : i < length c.begin) (m : MeetsAt θ c i) where
  -- where the objects up to i have nothing left over, they have nothing left over again within the t slots that hold what i needs
  pub quiet_again : (b : ℕ) → StolenWithin θ c.stolen b (b + m.settles) → Quiet (take (suc i) (history c b))
      → (z : ℕ) × (b < z) × (z ≤ b + m.settles) × Quiet (take (suc i) (history c z))
  quiet_again b given q =
      let d = m.settles in
      let one = ceiling_one d (plan_at c i).period (omega (arith, m.fits)) (omega arith) in
      let e = rw (← objects_at c.begin i h, one) at (window_suc (plans_of c) i (rw (objects_length c.begin) h) d) in
      quiet_within c (suc i) ok b d (omega (arith, m.fits)) (omega (arith, m.fits, given b d (omega arith) (omega arith)))

  -- so also within so many slots of any later slot r; n is at least the number of slots from b to r
  quiet_after : (r n b : ℕ) → b ≤ r → r ≤ b + n → StolenWithin θ c.stolen b (r + m.settles) → Quiet (take (suc i) (history c b))
      → (z : ℕ) × (r < z) × (z ≤ r + m.settles) × Quiet (take (suc i) (history c z))
  quiet_after r zero b l u given q =
      let a = quiet_again b (λ v x y z. given v x y (omega arith)) q in
      (a.0, omega arith, omega arith, a.3)
  quiet_after r (suc n) b l u given q =
      let a = quiet_again b (λ v x y z. given v x y (omega arith)) q in
      elim (dec_le a.0 r) [
        | yes y ↦ quiet_after r n a.0 y (omega arith) (λ v x k z. given v x (omega arith) z) a.3
        | no y ↦ (a.0, omega arith, omega arith, a.3)
      ]

-- ── The theorems ──

module _ (θ : ℕ → ℕ) (c : Course) (ok : Acceptable c.from c.begin) (i : ℕ) (h : i < length c.begin) (m : MeetsAt θ c i)
    (b e : ℕ) (given : StolenWithin θ c.stolen b e) (q : Quiet (take (suc i) (history c b))) where
  last_clear : (t : ℕ) → Quiet (take (suc i) (history c t)) → (track (alone_at c i) t).left ≡ 0
  last_clear t q = rw (← state_track c i t h) (omega (arith, last_left (history c t) i (rw (history_length c t) h)))

  supplied : Job.Supplied (alone_at c i) b e
  supplied = record {
    bounded = ok.bounded i h;
    cost_pos = m.cost_pos;
    deadline_pos = omega (arith, m.fits);
    within = m.within;
    clear = last_clear b q;
    again = λ r l u.
        let a = quiet_after θ c ok i h m r r b l (omega arith) (λ v x y z. given v x y (omega arith)) q in
        (a.0, a.1, omega arith, last_clear a.0 a.3);
  }

  -- each release begins a job that is done by its deadline
  pub deadlines : (r : ℕ) → ReleaseOf (at c.begin i) (c.from + r) → b ≤ r → r ≤ e → Kept c i r e
  unfolding release
  deadlines r x l u =
      let d : (state c i r).next ≡ c.from + r = (release_due c ok i h r).1 x in
      let g = Job.begins supplied r l u (rw (state_track c i r h) at d) in
      let z : (state c i r).left ≡ 0 = rw (state_track c i r h) g.clear in
      record {
        clear = z;
        begins = rw (eq-eqb (state c i r).next (c.from + r) d, eq-eqb (state c i r).left 0 z) refl;
        done = λ t p y k. rw (state_track c i t h) (let f = Job.done supplied g t p y k in (f.clear, f.value_is));
      }

  -- no release is skipped
  pub no_skips : (t : ℕ) → b ≤ t → t ≤ e → (state c i t).skips ≡ (state c i b).skips
  no_skips t l u = rw (state_track c i t h, state_track c i b h) (Job.no_skip supplied t l u)

  -- from one validity after b on, the stored value is there and its true age is below the validity
  pub freshness : (plan_at c i).deadline + (plan_at c i).period ≤ (plan_at c i).validity
      → (t : ℕ) → b + (plan_at c i).validity ≤ t → t ≤ e → FreshAt (state c i t) (c.from + t) (plan_at c i).validity
  freshness v t l u = rw (state_track c i t h) (Job.fresh supplied (plan_at c i).validity v t l u)
