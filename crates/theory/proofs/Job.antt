-- The life of one object's jobs, whatever slots it gets, and what follows where its work is done again and again within its deadline.
-- Assumes of an object that is `Supplied` what that record says.
use Prim.Native.Nat.{ℕ, zero, suc, ◌+◌, ◌-◌, ◌≤◌, ◌<◌}
use Rattle.std.specs.Prelude.{◌≡◌, ◌≢◌, ◌⊎◌, Bool}
use Rattle.std.proofs.Math.Path.{refl, ap₂}
use Rattle.std.proofs.Common.{sym, ap, ◌∙◌, inr, add-zero, add-suc, add-one, arith}
use Rattle.std.proofs.Math.Logic.{inl}
use Rattle.std.proofs.Math.Option.{Option, some}
use Rattle.std.proofs.Math.Decide.{ℕ_discrete, dec_le}
use borrow.Author.Tests.{eq-eqb, ne_eqb}
use Rattle.theory.specs.Model.{Object, State, begun, release, finished, one_less, FreshAt, Bounded}
use Rattle.theory.proofs.Cases.{actual_pos}
use Rattle.theory.proofs.Track.{Alone, serve, track, serve_keeps, serve_holds, track_planned}
use Rattle.theory.proofs.Window.{next_bounds}

-- with no work left a slot changes nothing
serve_none : (v : Bool) (w : State) → w.left ≡ 0 → serve v w ≡ w
serve_none v w h = serve_holds (λ u. u ≡ w) v w refl (λ e. absurd (omega arith)) (λ e. absurd (omega arith))

-- the job released at the instant p is in hand, over the stored value v, or it is done and its value is stored
abbrev Phase : ℕ → Option ℕ → State → Type 0
Phase p v w = ((0 < w.left) × (w.sample ≡ p) × (w.value ≡ v)) ⊎ ((w.left ≡ 0) × (w.value ≡ some p))

serve_phase : (p : ℕ) (v : Option ℕ) (does : Bool) (w : State) → Phase p v w → Phase p v (serve does w)
unfolding finished one_less
serve_phase p v does w (inl x) =
    serve_holds (Phase p v) does w (inl x) (λ e. inr (refl, ap some x.1)) (λ e. inl (omega arith, x.1, x.2))
serve_phase p v does w (inr x) = serve_holds (Phase p v) does w (inr x) (λ e. absurd (omega arith)) (λ e. absurd (omega arith))

phase_done : (p : ℕ) (v : Option ℕ) (w : State) → Phase p v w → w.left ≡ 0 → w.value ≡ some p
phase_done p v w (inl x) h = absurd (omega arith)
phase_done p v w (inr x) h = x.1

-- the state w of an object after the release at the instant p, with n the next release, k the skips and v the value at p
record Job (p n k : ℕ) (v : Option ℕ) (w : State) : Type 0 where
  next_is : w.next ≡ n
  skips_is : w.skips ≡ k
  phase : Phase p v w

serve_job : {p n k : ℕ} {v : Option ℕ} {w : State} (does : Bool) → Job p n k v w → Job p n k v (serve does w)
serve_job {p} {n} {k} {v} {w} does j = record {
  next_is = (serve_keeps does w).1 ∙ j.next_is;
  skips_is = (serve_keeps does w).2 ∙ j.skips_is;
  phase = serve_phase p v does w j.phase;
}

module _ (o : Alone) where
  abbrev plan : Object
  plan = o.begin.planned

  -- the instant of the slot t
  abbrev instant : ℕ → ℕ
  instant t = o.from + t

  -- a slot at which no release is due
  no_release : (t : ℕ) → (track o t).next ≢ instant t → track o (suc t) ≡ serve (o.turns t) (track o t)
  unfolding track release
  no_release t h = rw (ne_eqb (track o t).next (instant t) h) refl

  -- an object with no work left stays as it is until its next release
  stays : (z : ℕ) → (track o z).left ≡ 0 → (x : ℕ) → instant (z + x) ≤ (track o z).next → track o (z + x) ≡ track o z
  stays z q zero h = ap (track o) (add-zero z)
  stays z q (suc x) h =
      let ih : track o (z + x) ≡ track o z = stays z q x (omega arith) in
      let n : (track o (z + x)).next ≢ instant (z + x) = rw ih (omega arith) in
      rw (add-suc z x) (no_release (z + x) n ∙ (serve_none (o.turns (z + x)) (track o (z + x)) (rw ih q) ∙ ih))

  stays_at : (z t : ℕ) → (track o z).left ≡ 0 → z ≤ t → instant t ≤ (track o z).next → track o t ≡ track o z
  stays_at z t q l u = let e : z + (t - z) ≡ t = omega arith in rw e at (stays z q (t - z) (omega arith))

  -- a slot at which a release is due and no work is left
  begins_job : (t : ℕ) → (track o t).next ≡ instant t → (track o t).left ≡ 0
      → track o (suc t) ≡ serve (o.turns t) (begun (instant t) (o.works t) (track o t))
  unfolding track release
  begins_job t h q = rw (eq-eqb (track o t).next (instant t) h, eq-eqb (track o t).left 0 q) refl

  -- the job that a release begins, up to the next release
  life : 0 < plan.cost → (r : ℕ) → (track o r).next ≡ instant r → (track o r).left ≡ 0
      → (x : ℕ) → x < plan.period → Job (instant r) (instant r + plan.period) (track o r).skips (track o r).value (track o (r + suc x))
  unfolding begun
  life pos r d q zero h =
      let p = track_planned o r in
      rw (add-one r, begins_job r d q)
      (serve_job (o.turns r) (record {
        next_is = ap₂ (λ n w. n + w.period) d p;
        skips_is = refl;
        phase = inl (actual_pos (track o r).planned.cost (o.works r) (rw p pos), refl, refl);
      }))
  life pos r d q (suc x) h =
      let ih = life pos r d q x (omega arith) in
      let n : (track o (r + suc x)).next ≢ instant (r + suc x) = rw ih.next_is (omega arith) in
      rw (add-suc r (suc x), no_release (r + suc x) n) (serve_job (o.turns (r + suc x)) ih)

  life_at : 0 < plan.cost → (r t : ℕ) → (track o r).next ≡ instant r → (track o r).left ≡ 0 → r < t → t ≤ r + plan.period
      → Job (instant r) (instant r + plan.period) (track o r).skips (track o r).value (track o t)
  life_at pos r t d q l u = let e : r + suc (t - suc r) ≡ t = omega arith in rw e at (life pos r d q (t - suc r) (omega arith))

-- An object has nothing left over in the slot b, and again within its deadline of any slot from b on, up to the slot e.
pub record Supplied (o : Alone) (b e : ℕ) : Type 0 where
  pub bounded : Bounded o.from o.begin
  pub cost_pos : 0 < o.begin.planned.cost
  pub deadline_pos : 0 < o.begin.planned.deadline
  pub within : o.begin.planned.deadline ≤ o.begin.planned.period
  pub clear : (track o b).left ≡ 0
  pub again : (r : ℕ) → b ≤ r → r + o.begin.planned.deadline ≤ e
      → (z : ℕ) × (r < z) × (z ≤ r + o.begin.planned.deadline) × ((track o z).left ≡ 0)

-- the release at r is the first one since b, or the value stored is that of the release before
abbrev Before : Alone → ℕ → ℕ → Type 0
Before o b r =
    (r < b + o.begin.planned.period)
    ⊎ ((q : ℕ) × (q + o.begin.planned.period ≡ r) × ((track o r).value ≡ some (o.from + q)))

-- A release at r begins a job: no work is left, and no release was skipped since b.
pub record Begins (o : Alone) (b r : ℕ) : Type 0 where
  pub from_b : b ≤ r
  pub next_is : (track o r).next ≡ o.from + r
  pub clear : (track o r).left ≡ 0
  pub skips_is : (track o r).skips ≡ (track o b).skips
  pub before : Before o b r

-- What the release at r has come to at t.
pub record Done (o : Alone) (r t : ℕ) : Type 0 where
  pub clear : (track o t).left ≡ 0
  pub skips_is : (track o t).skips ≡ (track o r).skips
  pub value_is : (track o t).value ≡ some (o.from + r)

-- At t: no release came since b, or r is the latest one before t, and it began a job.
abbrev Now : Alone → ℕ → ℕ → Type 0
Now o b t = (o.from + t ≤ (track o b).next) ⊎ ((r : ℕ) × Begins o b r × (r < t) × (t ≤ r + o.begin.planned.period))

module _ {o : Alone} {b e : ℕ} (su : Supplied o b e) where
  -- a job is done by its deadline, and its value stands until the next release
  pub done : {r : ℕ} → Begins o b r → (t : ℕ) → r + (plan o).deadline ≤ t → t ≤ r + (plan o).period → t ≤ e → Done o r t
  done {r} g t l u h =
      let z = su.again r g.from_b (omega arith) in
      let w = su.within in
      let j = life_at o su.cost_pos r z.0 g.next_is g.clear z.1 (omega arith) in
      let st : track o t ≡ track o z.0 = stays_at o z.0 t z.3 (omega arith) (rw j.next_is (omega arith)) in
      record {
        clear = rw st z.3;
        skips_is = rw st j.skips_is;
        value_is = rw st (phase_done (instant o r) (track o r).value (track o z.0) j.phase z.3);
      }

  -- the latest job, at a slot up to the next release
  job : {r : ℕ} → Begins o b r → (t : ℕ) → r < t → t ≤ r + (plan o).period
      → Job (instant o r) (instant o r + (plan o).period) (track o r).skips (track o r).value (track o t)
  job {r} g t l u = life_at o su.cost_pos r t g.next_is g.clear l u

  -- a release that is due begins a job
  begins_at : (t : ℕ) → b ≤ t → t ≤ e → Now o b t → (track o t).next ≡ instant o t → Begins o b t
  begins_at t f h (inl u) d =
      let st : track o t ≡ track o b = stays_at o b t su.clear f u in
      let d' : (track o b).next ≡ instant o t = rw st at d in
      record {
        from_b = f;
        next_is = d;
        clear = rw st su.clear;
        skips_is = ap (λ w. w.skips) st;
        before = inl (omega (arith, next_bounds o su.bounded b));
      }
  begins_at t f h (inr p) d =
      let x : instant o t ≡ instant o p.0 + (plan o).period = sym d ∙ (job p.1 t p.2 p.3).next_is in
      let g = done p.1 t (omega (arith, su.within)) p.3 h in
      record {
        from_b = f;
        next_is = d;
        clear = g.clear;
        skips_is = g.skips_is ∙ p.1.skips_is;
        before = inr (p.0, omega arith, g.value_is);
      }

  now_step : (t : ℕ) → b ≤ t → suc t ≤ e → Now o b t → Dec ((track o t).next ≡ instant o t) → Now o b (suc t)
  now_step t f h w (yes d) = inr (t, begins_at t f (omega arith) w d, omega arith, omega (arith, next_bounds o su.bounded t))
  now_step t f h (inl u) (no d) = let d' : (track o b).next ≢ instant o t = rw (stays_at o b t su.clear f u) at d in inl (omega arith)
  now_step t f h (inr p) (no d) =
      let d' : instant o p.0 + (plan o).period ≢ instant o t = rw (job p.1 t p.2 p.3).next_is at d in
      inr (p.0, p.1, omega arith, omega arith)

  now : (x : ℕ) → b + x ≤ e → Now o b (b + x)
  now zero h = inl (omega (arith, next_bounds o su.bounded b))
  now (suc x) h = rw add-suc (now_step (b + x) (omega arith) (omega arith) (now x (omega arith)) (ℕ_discrete _ _))

  now_at : (t : ℕ) → b ≤ t → t ≤ e → Now o b t
  now_at t f h = let x : b + (t - b) ≡ t = omega arith in rw x at (now (t - b) (omega arith))

  -- each release that is due begins a job
  pub begins : (r : ℕ) → b ≤ r → r ≤ e → (track o r).next ≡ instant o r → Begins o b r
  begins r f h d = begins_at r f h (now_at r f h) d

  -- and none is skipped
  pub no_skip : (t : ℕ) → b ≤ t → t ≤ e → (track o t).skips ≡ (track o b).skips
  no_skip t f h = go (now_at t f h)
    where
      go : Now o b t → (track o t).skips ≡ (track o b).skips
      go (inl u) = ap (λ w. w.skips) (stays_at o b t su.clear f u)
      go (inr p) = (job p.1 t p.2 p.3).skips_is ∙ p.1.skips_is

  -- from v slots on, where v holds deadline and period, the stored value is there and younger than v
  pub fresh : (v : ℕ) → (plan o).deadline + (plan o).period ≤ v → (t : ℕ) → b + v ≤ t → t ≤ e → FreshAt (track o t) (instant o t) v
  fresh v w t f h = go (now_at t (omega arith) h)
    where
      pos : 0 < (plan o).deadline
      pos = su.deadline_pos

      -- the latest job is past its deadline, or not yet: then its value is stored, or that of the job before is
      early : (r : ℕ) → t < r + (plan o).deadline → r < t → Phase (instant o r) (track o r).value (track o t) → Before o b r
          → FreshAt (track o t) (instant o t) v
      early r l g (inr x) y = (instant o r, x.1, omega arith, omega arith)
      early r l g (inl x) (inl y) = absurd (omega arith)
      early r l g (inl x) (inr y) = (instant o y.0, x.2 ∙ y.2, omega arith, omega arith)

      late : (r : ℕ) → Begins o b r → r < t → t ≤ r + (plan o).period → Dec (r + (plan o).deadline ≤ t) → FreshAt (track o t) (instant o t) v
      late r k g u (yes l) = (instant o r, (done k t l u h).value_is, omega arith, omega arith)
      late r k g u (no l) = early r (omega arith) g (job k t g u).phase k.before

      go : Now o b t → FreshAt (track o t) (instant o t) v
      go (inl u) = absurd (omega (arith, next_bounds o su.bounded b))
      go (inr p) = late p.0 p.1 p.2 p.3 (dec_le _ _)
