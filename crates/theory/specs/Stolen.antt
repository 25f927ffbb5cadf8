-- Bounds on the slots stolen: none, or at most so many of any w slots, which is what one more object ahead brings. Assumes nothing.
use Rattle.std.specs.Prelude.{ℕ, zero, suc, ◌+◌, ◌-◌, ◌*◌, ◌≤◌, ◌<◌, ◌≡◌, Bool}
use Rattle.std.proofs.Common.{add-zero, add-suc, add_assoc, div-lt_iff_lt-mul, arith}
use Rattle.std.proofs.Math.Decide.{dec_le}
use Rattle.theory.specs.Model.{Object, unit, tally, stolen_sum, Unstolen, StolenWithin, ceiling, brings}

pub unstolen_within : (stolen : ℕ → Bool) (b e : ℕ) → Unstolen stolen b e → StolenWithin (λ x. 0) stolen b e
unfolding stolen_sum
unstolen_within stolen b e h u zero l r = omega arith
unstolen_within stolen b e h u (suc x) l r =
    let ih = unstolen_within stolen b e h u x l (omega arith) in
    rw (h (u + x) (omega arith) (omega arith)) (omega arith)

tally_split : (f : ℕ → ℕ) (b x y : ℕ) → tally f b (x + y) ≡ tally f b x + tally f (b + x) y
unfolding tally
tally_split f b x zero = rw (add-zero x) (omega arith)
tally_split f b x (suc y) = rw (add-suc x y, ← add_assoc b x y) (let ih = tally_split f b x y in omega arith)

-- at most s of any w slots in a row are stolen: then at most n * s of any n * w
stolen_pieces : (stolen : ℕ → Bool) (b e s w : ℕ) → ((u x : ℕ) → x ≤ w → b ≤ u → u + x ≤ e → stolen_sum stolen u x ≤ s)
    → (n u x : ℕ) → x ≤ n * w → b ≤ u → u + x ≤ e → stolen_sum stolen u x ≤ n * s
unfolding stolen_sum
stolen_pieces stolen b e s w h zero u x k l r = let z : x ≡ 0 = omega arith in rw z (omega arith)
stolen_pieces stolen b e s w h (suc n) u x k l r = elim (dec_le x w) [
  | yes y ↦ omega (arith, h u x y l r)
  | no y ↦
      let ih = stolen_pieces stolen b e s w h n (u + w) (x - w) (omega arith) (omega arith) (omega arith) in
      let z : x ≡ w + (x - w) = omega arith in
      rw z (omega (arith, tally_split (λ t. unit (stolen t)) u w (x - w), h u w (omega arith) l (omega arith)))
]

ceiling_holds : (x p : ℕ) → 0 < p → x ≤ ceiling x p * p
ceiling_holds x p h = let q = (div-lt_iff_lt-mul {k = p} {x = x + (p - 1)} {y = suc (ceiling x p)} h).0 (omega arith) in omega arith

-- so they take what one more object ahead would bring, of cost s and period w
pub thief_within : (thief : Object) → 0 < thief.period → (stolen : ℕ → Bool) (b e : ℕ)
    → ((u x : ℕ) → x ≤ thief.period → b ≤ u → u + x ≤ e → stolen_sum stolen u x ≤ thief.cost)
    → StolenWithin (λ x. brings x thief) stolen b e
thief_within thief pos stolen b e h u x l r =
    stolen_pieces stolen b e thief.cost thief.period h (ceiling x thief.period) u x (ceiling_holds x thief.period pos) l r
