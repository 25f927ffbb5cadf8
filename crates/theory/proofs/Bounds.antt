-- What holds of every state of a history: a run stays acceptable, whatever slots are stolen.
-- Assumes that the states at the beginning are acceptable.
use Prim.Native.Nat.{ℕ, zero, suc, ◌+◌, ◌≤◌, ◌<◌}
use Rattle.std.specs.Prelude.{◌≡◌, refl, ◌≢◌, Bool, List, [], ◌∷◌, length, take}
use Rattle.std.proofs.Math.Nat.{add-zero, add-suc}
use Rattle.std.proofs.Common.{arith, length-take, get_or-take}
use Rattle.theory.specs.Model.{State, no_state, at, objects, begun, skipped, release, finished, one_less, Course, history, state}
use Rattle.theory.specs.Model.{plans_of, left_sum, holders, Bounded, Past, Acceptable, cost_sum}
use Rattle.theory.proofs.Cases.{actual_le, release_holds}
use Rattle.theory.proofs.Slot.{slot_holders}
use Rattle.theory.proofs.Track.{Alone, serve, serve_holds, track, alone_at, state_track, history_objects, history_length}

-- ── One object ──

release_bounded : (now g : ℕ) (w : State) → Bounded now w → Bounded (suc now) (release now g w)
unfolding begun skipped
release_bounded now g w b = release_holds (Bounded (suc now)) now g w rests begins skips
  where
    rests : w.next ≢ now → Bounded (suc now) w
    rests d =
        record { next_from = omega arith; next_below = omega arith; left_le = b.left_le; work_le = b.work_le; at_rest = b.at_rest }

    begins : w.next ≡ now → w.left ≡ 0 → Bounded (suc now) (begun now g w)
    begins d e =
        let le = actual_le w.planned.cost g in
        record { next_from = omega arith; next_below = omega arith; left_le = omega arith; work_le = le; at_rest = λ h. h }

    skips : w.next ≡ now → 0 < w.left → Bounded (suc now) (skipped w)
    skips d e =
        record { next_from = omega arith; next_below = omega arith; left_le = b.left_le; work_le = b.work_le; at_rest = b.at_rest }

serve_bounded : (v : Bool) (now : ℕ) (w : State) → Bounded now w → Bounded now (serve v w)
unfolding finished one_less
serve_bounded v now w b = serve_holds (Bounded now) v w b last more
  where
    last : w.left ≡ 1 → Bounded now (finished w)
    last e =
        record { next_from = b.next_from; next_below = b.next_below; left_le = omega arith; work_le = omega arith; at_rest = λ h. refl }

    more : 1 < w.left → Bounded now (one_less w)
    more e = record {
      next_from = b.next_from;
      next_below = b.next_below;
      left_le = omega arith;
      work_le = b.work_le;
      at_rest = λ h. absurd (omega arith);
    }

step_past : (v : Bool) (now g : ℕ) (w : State) → Past now w → Past now (serve v (release now g w))
unfolding begun skipped finished one_less
step_past v now g w b = serve_holds (Past now) v u after last more
  where
    u : State
    u = release now g w

    after : Past now u
    after = release_holds (Past now) now g w
        (λ d. b)
        (λ d e. record { in_hand = λ h. omega arith; stored = b.stored })
        (λ d e. record { in_hand = b.in_hand; stored = b.stored })

    last : u.left ≡ 1 → Past now (finished u)
    last e = record {
      in_hand = λ h. absurd (omega arith);
      stored = λ p y. let z : u.sample ≡ p = cc in omega (arith, after.in_hand (omega arith));
    }

    more : 1 < u.left → Past now (one_less u)
    more e = record { in_hand = λ h. after.in_hand (omega arith); stored = after.stored }

module _ (o : Alone) where
  pub track_bounded : Bounded o.from o.begin → (t : ℕ) → Bounded (o.from + t) (track o t)
  unfolding track
  track_bounded b zero = rw add-zero b
  track_bounded b (suc t) =
      let now = o.from + t in
      let u = release now (o.works t) (track o t) in
      rw add-suc (serve_bounded (o.turns t) (suc now) u (release_bounded now (o.works t) (track o t) (track_bounded b t)))

  track_past : Past o.from o.begin → (t : ℕ) → Past (o.from + t) (track o t)
  unfolding track
  track_past p zero = rw add-zero p
  track_past p (suc t) =
      let q = step_past (o.turns t) (o.from + t) (o.works t) (track o t) (track_past p t) in
      record { in_hand = λ h. omega (arith, q.in_hand h); stored = λ x y. omega (arith, q.stored x y) }

  track_before : Past o.from o.begin → (t : ℕ) → Past (o.from + t) (track o (suc t))
  unfolding track
  track_before p t = step_past (o.turns t) (o.from + t) (o.works t) (track o t) (track_past p t)

-- ── The history ──

history_holders : (c : Course) → holders c.begin ≤ 1 → (t : ℕ) → holders (history c t) ≤ 1
unfolding history
history_holders c h zero = h
history_holders c h (suc t) = slot_holders (c.from + t) (λ i. c.works i t) (history c t) (c.stolen t) (history_holders c h t)

-- a run stays acceptable; so at most one job is in its hold at any time
pub stays_acceptable : (c : Course) → Acceptable c.from c.begin → (t : ℕ) → Acceptable (c.from + t) (history c t)
stays_acceptable c ok t = record {
  bounded = λ i h.
      let l = rw (history_length c t) at h in
      rw (state_track c i t l) (track_bounded (alone_at c i) (ok.bounded i l) t);
  past = λ i h.
      let l = rw (history_length c t) at h in
      rw (state_track c i t l) (track_past (alone_at c i) (ok.past i l) t);
  one_hold_law = history_holders c ok.one_hold_law t;
}

-- after the slot t every sample lies before the instant that follows
pub sampled_before : (c : Course) → Acceptable c.from c.begin → (i : ℕ) → i < length c.begin → (t : ℕ)
    → Past (c.from + t) (state c i (suc t))
sampled_before c ok i h t = rw (state_track c i (suc t) h) (track_before (alone_at c i) (ok.past i h) t)

pub take_bounded : (k now : ℕ) (ws : List State) → ((i : ℕ) → i < length ws → Bounded now (at ws i))
    → (i : ℕ) → i < length (take k ws) → Bounded now (at (take k ws) i)
take_bounded k now ws b i h =
    let l = rw length-take at h in
    rw (get_or-take k ws i no_state (omega arith)) (b i (omega arith))

-- all that is left is at most the sum of the costs
bounded_left : (now : ℕ) (ws : List State) → ((i : ℕ) → i < length ws → Bounded now (at ws i)) → left_sum ws ≤ cost_sum (objects ws)
unfolding left_sum objects cost_sum
bounded_left now [] b = omega arith
bounded_left now (w ∷ ws) b =
    let p = b 0 (omega arith) in
    let ih = bounded_left now ws (λ i l. b (suc i) (omega arith)) in
    omega arith

pub left_le : (c : Course) → Acceptable c.from c.begin → (t : ℕ) → left_sum (history c t) ≤ cost_sum (plans_of c)
left_le c ok t = rw (history_objects c t) at (bounded_left (c.from + t) (history c t) (stays_acceptable c ok t).bounded)
