-- When releases are due, in every run, whatever slots are stolen: at next + k · period and at no other instant; and every sample is the
-- instant of a release, or was in the state handed in. Assumes that the states at the beginning are acceptable.
use Rattle.std.specs.Prelude.{ℕ, zero, suc, ◌+◌, ◌*◌, ◌≤◌, ◌<◌, ◌≡◌, refl, ◌↔◌, Bool, length}
use Rattle.std.proofs.Common.{sym, ◌∙◌, inl, inr, lt_of_mul-lt-mul_right, arith}
use Rattle.std.proofs.Math.Nat.{zero-add}
use Rattle.theory.specs.Model.{State, at, begun, skipped, release, finished, one_less, Course, state, unit, tally, Bounded, Acceptable}
use Rattle.theory.proofs.Cases.{release_holds}
use Rattle.theory.proofs.Track.{Alone, serve, serve_holds, track, alone_at, state_track}
use Rattle.theory.proofs.Window.{due, next_bounds, next_window}
use Rattle.theory.specs.Releases.{ReleaseOf, Sampled}

-- ── Due instants ──

-- of the instants f + k * p there is one in each p instants
same_multiple : (f k n p x : ℕ) → x ≡ f + n * p → f + k * p ≤ x → x < f + k * p + p → x ≡ f + k * p
same_multiple f k n p x e l u =
    let a : n < suc k = lt_of_mul-lt-mul_right p (omega arith) in
    let b : k < suc n = lt_of_mul-lt-mul_right p (omega arith) in
    let c : n ≡ k = omega arith in
    rw c at e

module _ (o : Alone) where
  next_form : (t : ℕ) → ReleaseOf o.begin (track o t).next
  unfolding track
  next_form t = (tally (λ u. unit (due o u)) 0 t, rw zero-add at (next_window o 0 t))

  -- each of these is the next release when its instant comes
  next_at : Bounded o.from o.begin → (t : ℕ) → ReleaseOf o.begin (o.from + t) → (track o t).next ≡ o.from + t
  next_at h t p =
      let b = next_bounds o h t in
      let n = next_form t in
      let w = o.begin in
      same_multiple w.next p.0 n.0 w.planned.period (track o t).next n.1 (omega arith) (omega arith) ∙ sym p.1

-- a release is due in the slot t exactly where its instant is next + k * period for some k
pub release_due : (c : Course) → Acceptable c.from c.begin → (i : ℕ) → i < length c.begin → (t : ℕ)
    → ((state c i t).next ≡ c.from + t) ↔ ReleaseOf (at c.begin i) (c.from + t)
release_due c ok i h t =
    let o = alone_at c i in
    rw (state_track c i t h) (λ e. rw e at (next_form o t), λ p. next_at o (ok.bounded i h) t p)

-- ── Samples ──

release_sampled : (w : State) (now g : ℕ) (u : State) → (u.next ≡ now → ReleaseOf w now) → Sampled w u → Sampled w (release now g u)
unfolding begun skipped
release_sampled w now g u due_now s =
    release_holds (Sampled w) now g u
    (λ d. s)
    (λ d e. record { in_hand = λ h. inr (due_now d); stored = s.stored })
    (λ d e. record { in_hand = s.in_hand; stored = s.stored })

serve_sampled : (w : State) (v : Bool) (u : State) → Sampled w u → Sampled w (serve v u)
unfolding finished one_less
serve_sampled w v u s = serve_holds (Sampled w) v u s last more
  where
    last : u.left ≡ 1 → Sampled w (finished u)
    last e = record {
      in_hand = λ h. absurd (omega arith);
      stored = λ p y. let z : u.sample ≡ p = cc in inr (rw z at (s.in_hand (omega arith)));
    }

    more : 1 < u.left → Sampled w (one_less u)
    more e = record { in_hand = λ h. s.in_hand (omega arith); stored = s.stored }

track_sampled : (o : Alone) (t : ℕ) → Sampled o.begin (track o t)
unfolding track
track_sampled o zero = record { in_hand = λ h. inl (h, refl); stored = λ p y. inl y }
track_sampled o (suc t) =
    let now = o.from + t in
    let due_now : (track o t).next ≡ now → ReleaseOf o.begin now = λ e. rw e at (next_form o t) in
    serve_sampled o.begin (o.turns t) (release now (o.works t) (track o t))
    (release_sampled o.begin now (o.works t) (track o t) due_now (track_sampled o t))

-- a sample in hand or stored is the instant of a release, or was in the state handed in
pub samples : (c : Course) (i t : ℕ) → i < length c.begin → Sampled (at c.begin i) (state c i t)
samples c i t h = rw (state_track c i t h) (track_sampled (alone_at c i) t)
