-- Busy windows: slots in which the first k objects have work pending. What is done in them, what those behind can take of it, and
-- the slot at which the first k have nothing left over again.
-- Assumes, where it says so, that the states at the beginning are acceptable, and how many slots are stolen.
use Prim.Native.Nat.{ℕ, zero, suc, ◌+◌, ◌-◌, ◌≤◌, ◌<◌}
use Rattle.std.specs.Prelude.{◌≡◌, refl, ◌⊎◌, List, take, drop}
use Rattle.std.proofs.Math.Path.{ap}
use Rattle.std.proofs.Common.{◌∙◌, inl, inr, ⊎_elim, add-zero, add-suc, arith}
use Rattle.std.proofs.Math.Decide.{ℕ_discrete}
use Rattle.theory.specs.Model.{State, releases, Course, history, step_one, plans_of, left_sum, Quiet, unit, tally, stolen_sum}
use Rattle.theory.specs.Model.{Acceptable, window_of, hold_behind, need_of}
use Rattle.theory.proofs.Holds.{owed_sum, holders_owed}
use Rattle.theory.proofs.Slot.{slot_down, slot_behind, slot_law, slot_idle}
use Rattle.theory.proofs.Track.{turn, history_tracks, take_tracks, history_objects, objects_take, objects_drop}
use Rattle.theory.proofs.Bounds.{stays_acceptable, take_bounded}
use Rattle.theory.proofs.Window.{tally_le, begun_sum, begun_window, releases_left}

-- f is 0 in some slot of the window, or in none
search_window : (f : ℕ → ℕ) (b x : ℕ) → ((t : ℕ) × (b ≤ t) × (t < b + x) × (f t ≡ 0)) ⊎ ((t : ℕ) → b ≤ t → t < b + x → 0 < f t)
search_window f b zero = inr (λ t l u. absurd (omega arith))
search_window f b (suc x) = go (f (b + x)) refl (search_window f b x)
  where
    go : (v : ℕ) → f (b + x) ≡ v → ((t : ℕ) × (b ≤ t) × (t < b + x) × (f t ≡ 0)) ⊎ ((t : ℕ) → b ≤ t → t < b + x → 0 < f t)
        → ((t : ℕ) × (b ≤ t) × (t < b + suc x) × (f t ≡ 0)) ⊎ ((t : ℕ) → b ≤ t → t < b + suc x → 0 < f t)
    go v e (inl p) = inl (p.0, p.1, omega arith, p.3)
    go zero e (inr n) = inl (b + x, omega arith, omega arith, e)
    go (suc v) e (inr n) = inr (λ t l u. elim (ℕ_discrete t (b + x)) [ yes y ↦ rw (y, e) (omega arith) | no y ↦ n t l (omega arith) ])

module _ (c : Course) (k : ℕ) where
  -- the first k objects and the others, before the slot t
  abbrev pub ahead : ℕ → List State
  ahead t = take k (history c t)

  abbrev pub behind : ℕ → List State
  behind t = drop k (history c t)

  -- the work pending in the slot t among the first k: left over or just begun
  abbrev pub pending : ℕ → ℕ
  pending t = left_sum (releases (c.from + t) (λ i. c.works i t) (ahead t))

  -- the work that step 1 brings among the first k
  unfoldable pub brought : ℕ → ℕ
  brought t = pending t - left_sum (ahead t)

  -- the units that the others do
  unfoldable pub taken : ℕ → ℕ
  taken t = left_sum (drop k (step_one c t)) - left_sum (behind (suc t))

  -- work is pending among the first k in each of the x slots from b on
  abbrev pub Busy : ℕ → ℕ → Type 0
  Busy b x = (t : ℕ) → b ≤ t → t < b + x → 0 < pending t

  pending_sum : (t : ℕ)
      → (pending t ≡ left_sum (ahead t) + brought t) × (brought t ≡ begun_sum c.from (take k c.begin) c.works (turn c) t)
  unfolding brought
  pending_sum t =
      let e = ap (take k) (history_tracks c t) ∙ take_tracks k c.from c.begin c.works (turn c) t in
      rw e (let p = releases_left c.from (take k c.begin) c.works (turn c) t in omega arith)

  after_idle : (t : ℕ) → pending t ≡ 0 → Quiet (ahead (suc t))
  unfolding history
  after_idle t h = slot_idle (c.from + t) (λ i. c.works i t) (history c t) k (c.stolen t) h

  step_law : (t : ℕ) → 0 < pending t
      → left_sum (ahead (suc t)) + owed_sum (behind (suc t)) + 1 ≤ left_sum (ahead t) + owed_sum (behind t) + brought t + unit (c.stolen t)
  unfolding history
  step_law t busy = omega (arith, (pending_sum t).0, slot_law (c.from + t) (λ i. c.works i t) (history c t) k (c.stolen t) busy)

  window : (b x : ℕ) → Busy b x
      → left_sum (ahead (b + x)) + owed_sum (behind (b + x)) + x
      ≤ left_sum (ahead b) + owed_sum (behind b) + tally brought b x + stolen_sum c.stolen b x
  unfolding tally stolen_sum
  window b zero busy = rw (add-zero b) (omega arith)
  window b (suc x) busy =
      let ih = window b x (λ t l u. busy t l (omega arith)) in
      let p = step_law (b + x) (busy (b + x) (omega arith) (omega arith)) in
      rw (add-suc b x) (omega arith)

  taken_window : (b x : ℕ) → Busy b x → tally taken b x + owed_sum (behind (b + x)) ≤ owed_sum (behind b)
  unfolding tally taken history
  taken_window b zero busy = rw (add-zero b) (omega arith)
  taken_window b (suc x) busy =
      let t = b + x in
      let g : ℕ → ℕ = λ i. c.works i t in
      let ih = taken_window b x (λ t l u. busy t l (omega arith)) in
      let p = slot_behind (c.from + t) g (history c t) k (c.stolen t) (busy t (omega arith) (omega arith)) in
      rw (add-suc b x) (omega (arith, slot_down (c.from + t) g (history c t) k (c.stolen t)))

  module _ (ok : Acceptable c.from c.begin) where
    -- what the others owe of holds is at most the longest, less 1
    owed_behind : (t : ℕ) → owed_sum (behind t) ≤ hold_behind (drop k (plans_of c))
    owed_behind t =
        let e = objects_drop k (history c t) ∙ ap (drop k) (history_objects c t) in
        rw e at (holders_owed k (history c t) (stays_acceptable c ok t).one_hold_law)

    -- so much of a busy window do the others take at most
    pub taken_le : (b x : ℕ) → Busy b x → tally taken b x ≤ hold_behind (drop k (plans_of c))
    taken_le b x busy = omega (arith, taken_window b x busy, owed_behind b)

    -- x slots bring at most what such a window can bring
    pub brought_le : (b x : ℕ) → tally brought b x ≤ window_of (take k (plans_of c)) x
    brought_le b x =
        let first = take k c.begin in
        let e = tally_le brought (begun_sum c.from first c.works (turn c)) 1 (λ t. omega (arith, (pending_sum t).1)) b x in
        let p = begun_window c.from first c.works (turn c) (take_bounded k c.from c.begin ok.bounded) b x in
        rw (← objects_take k c.begin) (omega arith)

    -- the slots of a busy window go into the work left and begun among the first k, into one hold behind them, and into stolen slots
    pub busy_window : (b x : ℕ) → Busy b x
        → left_sum (ahead (b + x)) + x
        ≤ left_sum (ahead b) + hold_behind (drop k (plans_of c)) + window_of (take k (plans_of c)) x + stolen_sum c.stolen b x
    busy_window b x busy = omega (arith, window b x busy, owed_behind b, brought_le b x)

    -- so the first k have nothing left over within any d slots that hold all that
    pub quiet_within : (b d : ℕ) → 0 < d
        → need_of (take k (plans_of c)) (left_sum (ahead b) + hold_behind (drop k (plans_of c))) d + stolen_sum c.stolen b d ≤ d
        → (z : ℕ) × (b < z) × (z ≤ b + d) × Quiet (ahead z)
    quiet_within b d pos fits = ⊎_elim found full (search_window pending b d)
      where
        found : (t : ℕ) × (b ≤ t) × (t < b + d) × (pending t ≡ 0) → (z : ℕ) × (b < z) × (z ≤ b + d) × Quiet (ahead z)
        found p = (suc p.0, omega arith, omega arith, after_idle p.0 p.3)

        full : Busy b d → (z : ℕ) × (b < z) × (z ≤ b + d) × Quiet (ahead z)
        full busy = (b + d, omega arith, omega arith, omega (arith, busy_window b d busy))
