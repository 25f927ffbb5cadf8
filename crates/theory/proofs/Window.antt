-- What a window of slots can bring: releases and begun work, under any handing out of slots.
-- Assumes, where it says so, that the states at the beginning are bounded.
use Prim.Native.Nat.{ℕ, zero, suc, ◌+◌, ◌-◌, ◌*◌, ◌≤◌, ◌<◌}
use Rattle.std.specs.Prelude.{◌≡◌, refl, Bool, List, [], ◌∷◌, length, eqb}
use Rattle.std.proofs.Math.Path.{ap}
use Rattle.std.proofs.Common.{◌∙◌, add-zero, le-div_iff_mul-le, mul-le-mul_right, eq-eqb, ne_eqb}
use Rattle.std.proofs.Math.Nat.{add-suc}
use native.Mathlib.Omega.{arith}
use Rattle.theory.specs.Model.{Object, State, at, objects, begun, skipped, release, releases, left_sum, unit, tally}
use Rattle.theory.specs.Model.{Bounded, ceiling, window_of}
use Rattle.theory.proofs.Cases.{actual_le, release_holds}
use Rattle.theory.proofs.Track.{Alone, alone, track, track_planned, serve_keeps, tracks}
use Rattle.theory.proofs.Bounds.{track_bounded}

-- ── Sums over a window ──

tally_add : (f g : ℕ → ℕ) (b x : ℕ) → tally (λ t. f t + g t) b x ≡ tally f b x + tally g b x
unfolding tally
tally_add f g b zero = refl
tally_add f g b (suc x) = let ih = tally_add f g b x in omega arith

pub tally_le : (f g : ℕ → ℕ) (c : ℕ) → ((t : ℕ) → f t ≤ g t * c) → (b x : ℕ) → tally f b x ≤ tally g b x * c
unfolding tally
tally_le f g c h b zero = omega arith
tally_le f g c h b (suc x) = let ih = tally_le f g c h b x in omega (arith, h (b + x))

-- ── One object, one slot ──

-- step 1 begins a job of at most the cost, where a release is due
release_left : (now g : ℕ) (w : State)
    → (w.left ≤ (release now g w).left) × ((release now g w).left ≤ w.left + unit (eqb w.next now) * w.planned.cost)
unfolding begun skipped unit
release_left now g w =
    release_holds (λ u. (w.left ≤ u.left) × (u.left ≤ w.left + unit (eqb w.next now) * w.planned.cost)) now g w
    (λ d. omega arith)
    (λ d e. rw (eq-eqb w.next now d) (omega (arith, actual_le w.planned.cost g)))
    (λ d e. omega arith)

release_next : (now g : ℕ) (w : State) → (release now g w).next ≡ w.next + unit (eqb w.next now) * w.planned.period
unfolding begun skipped unit
release_next now g w =
    release_holds (λ u. u.next ≡ w.next + unit (eqb w.next now) * w.planned.period) now g w
    (λ d. rw (ne_eqb w.next now d) (omega arith))
    (λ d e. rw (eq-eqb w.next now d) (omega arith))
    (λ d e. rw (eq-eqb w.next now d) (omega arith))

-- ── One object, its history ──

module _ (o : Alone) where
  abbrev plan : Object
  plan = o.begin.planned

  -- is a release due in the slot t?
  unfoldable pub due : ℕ → Bool
  due t = eqb (track o t).next (o.from + t)

  -- the work of the job that begins in the slot t
  unfoldable pub begun_at : ℕ → ℕ
  begun_at t = (release (o.from + t) (o.works t) (track o t)).left - (track o t).left

  begun_le : (t : ℕ) → begun_at t ≤ unit (due t) * plan.cost
  unfolding begun_at due
  begun_le t =
      let p = release_left (o.from + t) (o.works t) (track o t) in
      let e : unit (due t) * (track o t).planned.cost ≡ unit (due t) * plan.cost = ap (λ q. unit (due t) * q.cost) (track_planned o t) in
      omega arith

  next_step : (t : ℕ) → (track o (suc t)).next ≡ (track o t).next + unit (due t) * plan.period
  unfolding track due
  next_step t =
      let w = track o t in
      let now = o.from + t in
      (serve_keeps (o.turns t) (release now (o.works t) w)).1
      ∙ (release_next now (o.works t) w ∙ ap (λ p. w.next + unit (due t) * p.period) (track_planned o t))

  pub next_bounds : Bounded o.from o.begin
      → (t : ℕ) → (o.from + t ≤ (track o t).next) × ((track o t).next < o.from + t + plan.period)
  next_bounds h t =
      let b = track_bounded o h t in
      let e : (track o t).planned.period ≡ plan.period = ap (λ p. p.period) (track_planned o t) in
      omega arith

  pub next_window : (b x : ℕ) → (track o (b + x)).next ≡ (track o b).next + tally (λ t. unit (due t)) b x * plan.period
  unfolding tally
  next_window b zero = rw (add-zero b) (omega arith)
  next_window b (suc x) = rw add-suc (let ih = next_window b x in let q = next_step (b + x) in omega arith)

  -- a window of x slots holds at most so many releases as x divided by the period, rounded up
  due_count : Bounded o.from o.begin → (b x : ℕ) → tally (λ t. unit (due t)) b x ≤ ceiling x plan.period
  due_count h b x =
      let l = next_bounds h b in
      let u = next_bounds h (b + x) in
      let e = next_window b x in
      (le-div_iff_mul-le {k = plan.period} (omega arith)).1 (omega arith)

  begun_count : Bounded o.from o.begin → (b x : ℕ) → tally begun_at b x ≤ ceiling x plan.period * plan.cost
  begun_count h b x =
      let p = tally_le begun_at (λ t. unit (due t)) plan.cost begun_le b x in
      let q = mul-le-mul_right plan.cost (due_count h b x) in
      omega arith

-- ── A list of objects ──

-- the work of the jobs begun in the slot t
unfoldable pub begun_sum : ℕ → List State → (ℕ → ℕ → ℕ) → (ℕ → ℕ → Bool) → ℕ → ℕ
unfolding begun_at
begun_sum b [] a s t = 0
begun_sum b (w ∷ ws) a s t = begun_at (alone b w (a 0) (s 0)) t + begun_sum b ws (λ i. a (suc i)) (λ i. s (suc i)) t

-- is at most what such a window can bring
pub begun_window : (f : ℕ) (ws : List State) (a : ℕ → ℕ → ℕ) (s : ℕ → ℕ → Bool) → ((i : ℕ) → i < length ws → Bounded f (at ws i))
    → (b x : ℕ) → tally (begun_sum f ws a s) b x ≤ window_of (objects ws) x
unfolding begun_sum window_of objects
begun_window f [] a s h b x = let p = tally_le (begun_sum f [] a s) (begun_sum f [] a s) 0 (λ t. omega arith) b x in omega arith
begun_window f (w ∷ ws) a s h b x =
    let a' : ℕ → ℕ → ℕ = λ i. a (suc i) in
    let s' : ℕ → ℕ → Bool = λ i. s (suc i) in
    let p = begun_count (alone f w (a 0) (s 0)) (h 0 (omega arith)) b x in
    let ih = begun_window f ws a' s' (λ i l. h (suc i) (omega arith)) b x in
    let e = tally_add (begun_at (alone f w (a 0) (s 0))) (begun_sum f ws a' s') b x in
    omega arith

-- step 1 adds the work that is begun
pub releases_left : (b : ℕ) (ws : List State) (a : ℕ → ℕ → ℕ) (s : ℕ → ℕ → Bool) (t : ℕ)
    → left_sum (releases (b + t) (λ j. a j t) (tracks b ws a s t)) ≡ left_sum (tracks b ws a s t) + begun_sum b ws a s t
unfolding tracks left_sum releases begun_sum begun_at
releases_left b [] a s t = omega arith
releases_left b (w ∷ ws) a s t =
    let p = release_left (b + t) (a 0 t) (track (alone b w (a 0) (s 0)) t) in
    let ih = releases_left b ws (λ i. a (suc i)) (λ i. s (suc i)) t in
    omega arith
