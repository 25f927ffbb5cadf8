-- What a search adds up: it grows and stays small, and over what is known of planned rows it is what those rows need. Assumes nothing.
use Prim.Native.Nat.{ℕ, zero, suc, ◌+◌, ◌-◌, ◌*◌, ◌/◌, ◌≤◌, ◌<◌, min}
use mathlib.Core.Path.{◌≡◌, refl, ◌∙◌}
use mathlib.Core.List.{List, [], ◌∷◌, ◌++◌, map}
use mathlib.Core.Option.{Option, none, some}
use native.Mathlib.Decide.{dec_lt}
use native.Mathlib.Omega.{arith}
use native.Mathlib.Nat.{add-div_right, add-mul, div-eq_of_lt, div-eq_of_lt-le, div-le_self, div-mul-le_self, div-zero, lt-div-mul-add, mul_assoc, mul_comm, mul-le-mul, mul-le-mul_left, mul-le-mul_right, mul-suc, suc-mul, zero-mul, mul-zero}
use native.Mathlib.Numerals.{add-one}
use borrow.Author.Tests.{lt-ltb, le-ltb}
use lib.ListN.{length, take, drop, get_or, length-drop}
use lib.Seq.{get_or-drop, get_or-take, length-take-le}
use Rattle.std.specs.Prelude as answer
use Rattle.std.specs.List.{sum_by, All}
use Rattle.std.proofs.lemmas.List.{get_or_default}
use Rattle.std.proofs.lemmas.List.Sums.{sum_by-cons, sum_by-take-drop, sum_by-le, sum_by-le-sum_by}
use Rattle.rules.specs.declared.PlanRow.{PlanRow}
use Rattle.rules.specs.Deadlines.{ceiling, brings, window_of, need_of, first_fixed, smallest_within}
use Rattle.rules.proofs.Balance.{div_grows, fixed_same}
use Rattle.planning.specs.declared.search.Ahead.{Ahead}
use Rattle.planning.specs.Made.{job_of, ahead_of, least, known_of}
use Rattle.planning.specs.Paces.{pace_of, again, need_again, UpTo, no_ahead, Low, Rising, Steady, lower, Reached, found_of}

-- ── What is added up ──

again_grows : {s t : ℕ} (o : Ahead) → s ≤ t → again s o ≤ again t o
again_grows {s} {t} o h =
    let a : (s - 1) * o.pace ≤ (t - 1) * o.pace = mul-le-mul_right o.pace (omega arith) in
    mul-le-mul_right o.cost (div_grows ((s - 1) * o.pace) ((t - 1) * o.pace) 1099511627776 a)

pub need_grows : (os : List Ahead) (start : ℕ) {s t : ℕ} → s ≤ t → need_again os start s ≤ need_again os start t
need_grows os start {s} {t} h = omega (arith, sum_by-le-sum_by (again s) (again t) os (λ o. again_grows o h))

-- the numbers of one turn
pub product_small : (s m : ℕ) → s ≤ 1000000 → m ≤ 1099511627777 → s * m ≤ 1099511627777000000
product_small s m a b = let p : s * m ≤ 1000000 * 1099511627777 = mul-le-mul a b in omega arith

pub brought_small : (s m c : ℕ) → s ≤ 1000000 → m ≤ 1099511627777 → c ≤ 4294967295 → s * m / 1099511627776 * c ≤ 4294967295000000
brought_small s m c a b h =
    let q : s * m / 1099511627776 ≤ 1000000 = omega (arith, product_small s m a b) in
    let p : s * m / 1099511627776 * c ≤ 1000000 * 4294967295 = mul-le-mul q h in
    omega arith

-- a round goes up, also where it is left above the bound
pub up_more : {bound x r : ℕ} (t : ℕ) → t ≤ bound → t ≤ x → UpTo bound x r → t ≤ r
up_more {bound} {x} {r} t h l u = elim (dec_lt bound r) [
  | yes b ↦ omega arith
  | no b ↦ omega (arith, u.same (omega arith))
]

-- ── The pace ──

-- s times a factor, divided by 2 ^ 40, is s divided by the period, while s times the period is below 2 ^ 40
factor_right : (s p : ℕ) → 1 ≤ p → s * p < 1099511627776 → s * (1099511627776 / p + 1) / 1099511627776 ≡ s / p
factor_right s p l u =
    let a = 1099511627776 / p in
    let q = s / p in
    let whole : 1099511627776 < a * p + p = lt-div-mul-add l in
    let part : a * p ≤ 1099511627776 = div-mul-le_self 1099511627776 p in
    let below : q * p ≤ s = div-mul-le_self s p in
    let above : s < q * p + p = lt-div-mul-add l in
    -- q * 2 ^ 40 ≤ q * (p * (a + 1)) ≤ s * (a + 1)
    let low₁ : q * 1099511627776 ≤ q * (p * (a + 1)) = mul-le-mul_left q (rw (add-one, mul-suc p a, mul_comm p a) (omega arith)) in
    let low₂ : q * p * (a + 1) ≤ s * (a + 1) = mul-le-mul_right (a + 1) below in
    let low : q * 1099511627776 ≤ s * (a + 1) = omega (arith, low₁, low₂, mul_assoc q p (a + 1)) in
    -- s * (a + 1) * p = s * a * p + s * p < (s + 1) * 2 ^ 40 ≤ (q + 1) * p * 2 ^ 40
    let e₁ : s * (a + 1) * p ≡ s * (a * p) + s * p = rw (add-one, mul-suc s a, add-mul (s * a) s p, mul_assoc s a p) in
    let e₂ : (q + 1) * 1099511627776 * p ≡ (q * p + p) * 1099511627776 = rw (mul_assoc (q + 1) 1099511627776 p, mul_comm 1099511627776 p, ← mul_assoc (q + 1) p 1099511627776, add-one, suc-mul q p) in
    let m : s * (a * p) ≤ s * 1099511627776 = mul-le-mul_left s part in
    let up : s * (a + 1) < (q + 1) * 1099511627776 = elim (dec_lt (s * (a + 1)) ((q + 1) * 1099511627776)) [
      | yes h ↦ h
      | no h ↦ absurd (let f : (q + 1) * 1099511627776 * p ≤ s * (a + 1) * p = mul-le-mul_right p (omega arith) in omega (arith, e₁, e₂, m, f))
    ] in
    div-eq_of_lt-le 1099511627776 low up

-- so with the pace of any period from 1 on: a longer one than 1,000,000 is as good as that
pub pace_right : (s p : ℕ) → s < 1000000 → 1 ≤ p → s * pace_of p / 1099511627776 ≡ s / p
pace_right s p h l = elim (dec_lt p 1000000) [
  | yes u ↦
      (let e : min p 1000000 ≡ p = omega arith in
      let v : p ≤ 1000000 = omega arith in
      let room : suc s * p ≤ 1000000 * 1000000 = mul-le-mul h v in
      rw e (factor_right s p l (omega (arith, room, suc-mul s p))))
  | no u ↦
      (let e : min p 1000000 ≡ 1000000 = omega arith in
      let far : s / 1000000 ≡ 0 = div-eq_of_lt h in
      let further : s / p ≡ 0 = div-eq_of_lt (omega arith) in
      rw (e, factor_right s 1000000 (omega arith) (omega arith), far, further))
]

pub pace_to : (p : ℕ) → pace_of p ≤ 1099511627777
pace_to p = omega (arith, div-le_self 1099511627776 (min p 1000000))

-- t divided by p and rounded up is one more than t - 1 divided by p
ceiling_once : (t p : ℕ) → 1 ≤ t → 1 ≤ p → ceiling t p ≡ (t - 1) / p + 1
ceiling_once t p h l = let e : t + (p - 1) ≡ (t - 1) + p = omega arith in rw e (add-div_right (t - 1) l)

-- ── Planned rows ──

job_none : (r : PlanRow) → r.period < 1 → job_of r ≡ 0
job_none r h = rw (lt-ltb r.period 1 h)

pub job_one : (r : PlanRow) → 1 ≤ r.period → job_of r ≡ r.cost
job_one r h = rw (le-ltb r.period 1 h)

-- what a row brings is one job and then again as its pace has it
told_brought : (r : PlanRow) (t : ℕ) → 1 ≤ t → t ≤ 1000000 → brings t r ≡ job_of r + (t - 1) * pace_of r.period / 1099511627776 * job_of r
told_brought r t a b = elim (dec_lt r.period 1) [
  | yes h ↦ (let z : r.period ≡ 0 = omega arith in rw (job_none r h, z, div-zero (t + (0 - 1)), zero-mul r.cost) (omega (arith, mul-zero ((t - 1) * pace_of 0 / 1099511627776))))
  | no h ↦
      (let l : 1 ≤ r.period = omega arith in
      let e = pace_right (t - 1) r.period (omega arith) l in
      rw (job_one r l, e, ceiling_once t r.period a l, add-one, suc-mul ((t - 1) / r.period) r.cost) (omega arith))
]

-- and not again within its period
told_once : (r : PlanRow) (t c : ℕ) → c ≤ r.period → t ≤ c → t ≤ 1000000 → (t - 1) * pace_of r.period / 1099511627776 * job_of r ≡ 0
told_once r t c h k u = elim (dec_lt r.period 1) [
  | yes l ↦ rw (job_none r l, mul-zero ((t - 1) * pace_of r.period / 1099511627776))
  | no l ↦
      (let e = pace_right (t - 1) r.period (omega arith) (omega arith) in
      let d : (t - 1) / r.period ≡ 0 = div-eq_of_lt (omega arith) in
      rw (e, d, zero-mul (job_of r)))
]

-- ── What is known of planned rows ──

-- what they need is one job of each and then again
window_known : (rs : List PlanRow) (t : ℕ) → 1 ≤ t → t ≤ 1000000 → window_of rs t ≡ sum_by job_of rs + sum_by (again t) (known_of rs)
window_known [] t h u = refl
window_known (r ∷ rs) t h u =
    rw (sum_by-cons job_of r rs, sum_by-cons (again t) (record { pace = pace_of r.period; cost = job_of r; calm = least r.period rs }) (known_of rs))
    (omega (arith, window_known rs t h u, told_brought r t h u))

pub need_known : (rs : List PlanRow) (own start t : ℕ) → start ≡ own + sum_by job_of rs → 1 ≤ t → t ≤ 1000000 → need_again (known_of rs) start t ≡ need_of rs own t
need_known rs own start t e h u = omega (arith, e, window_known rs t h u)

-- so what a search finds is the smallest t that balances
pub search_right : (rs : List PlanRow) (own start bound : ℕ) → start ≡ own + sum_by job_of rs → bound ≤ 1000000
    → first_fixed (need_again (known_of rs) start) bound 1 ≡ smallest_within rs own bound
search_right rs own start bound e u =
    fixed_same (need_again (known_of rs) start) (need_of rs own) bound 1 (λ s a b. need_known rs own start s e a (omega arith))

known_length : (rs : List PlanRow) → length (known_of rs) ≡ length rs
known_length [] = refl
known_length (r ∷ rs) = rw (known_length rs)

-- one row more
least_more : (p : ℕ) (rs : List PlanRow) (r : PlanRow) → least p (rs ++ r ∷ []) ≡ min (least p rs) r.period
least_more p [] r = refl
least_more p (x ∷ rs) r = least_more (min p x.period) rs r

pub known_more : (rs : List PlanRow) (r : PlanRow) → known_of (rs ++ r ∷ []) ≡ map (lower r.period) (known_of rs) ++ ahead_of r ∷ []
known_more [] r = refl
known_more (x ∷ rs) r = rw (known_more rs r, least_more x.period rs r)

least_below : (p : ℕ) (rs : List PlanRow) → least p rs ≤ p
least_below p [] = omega arith
least_below p (r ∷ rs) = omega (arith, least_below (min p r.period) rs)

least_grows : (p q : ℕ) (rs : List PlanRow) → p ≤ q → least p rs ≤ least q rs
least_grows p q [] h = h
least_grows p q (r ∷ rs) h = least_grows (min p r.period) (min q r.period) rs (omega arith)

calm_below : (p : ℕ) (rs : List PlanRow) (k : ℕ) → k < length (known_of rs) → least p rs ≤ (get_or (known_of rs) k no_ahead).calm
calm_below p [] k h = absurd (omega arith)
calm_below p (r ∷ rs) zero h = least_grows (min p r.period) r.period rs (omega arith)
calm_below p (r ∷ rs) (suc k) h = calm_below (min p r.period) rs k (omega arith)

rising_known : (rs : List PlanRow) → Rising (known_of rs)
rising_known [] j k h l = absurd (omega arith)
rising_known (r ∷ rs) zero zero h l = omega arith
rising_known (r ∷ rs) zero (suc k) h l = calm_below r.period rs k (omega arith)
rising_known (r ∷ rs) (suc j) zero h l = absurd (omega arith)
rising_known (r ∷ rs) (suc j) (suc k) h l = rising_known rs j k (omega arith) (omega arith)

low_known : (rs : List PlanRow) (k : ℕ) → k < length (known_of rs) → (get_or (known_of rs) k no_ahead).pace ≤ 1099511627777
low_known [] k h = absurd (omega arith)
low_known (r ∷ rs) zero h = pace_to r.period
low_known (r ∷ rs) (suc k) h = low_known rs k (omega arith)

once_known : (rs : List PlanRow) (k t : ℕ) → k < length (known_of rs) → t ≤ (get_or (known_of rs) k no_ahead).calm → t ≤ 1000000 → again t (get_or (known_of rs) k no_ahead) ≡ 0
once_known [] k t h l u = absurd (omega arith)
once_known (r ∷ rs) zero t h l u = told_once r t (least r.period rs) (least_below r.period rs) l u
once_known (r ∷ rs) (suc k) t h l u = once_known rs k t (omega arith) l u

pub steady_known : (rs : List PlanRow) → Steady (known_of rs)
steady_known rs = record { low = low_known rs; once = once_known rs; rising = rising_known rs }

-- those ahead of the r-th alone
pub low_take : (os : List Ahead) (r : ℕ) → r ≤ length os → Low os → Low (take r os)
low_take os r h low k b =
    let l : length (take r os) ≡ r = length-take-le r os h in
    rw (get_or-take r os k no_ahead (omega arith)) (low k (omega arith))

-- rows told each by itself, without the calms of those behind them, bring as much
pub told_again : (t : ℕ) (rs : List PlanRow) → sum_by (again t) (map ahead_of rs) ≡ sum_by (again t) (known_of rs)
told_again t [] = refl
told_again t (r ∷ rs) =
    let one : Ahead = record { pace = pace_of r.period; cost = job_of r; calm = least r.period rs } in
    rw (sum_by-cons (again t) (ahead_of r) (map ahead_of rs), sum_by-cons (again t) one (known_of rs), told_again t rs)

pub low_told : (rs : List PlanRow) → Low (map ahead_of rs)
low_told [] k h = absurd (omega arith)
low_told (r ∷ rs) zero h = pace_to r.period
low_told (r ∷ rs) (suc k) h = low_told rs k (omega arith)

-- a sum that goes as far as it has to is the whole sum
pub reached_all : (os : List Ahead) (t r start bound x : ℕ) → t ≤ 1000000 → Steady os → Reached os t r → UpTo bound (need_again (take r os) start t) x → UpTo bound (need_again os start t) x
reached_all os t r start bound x few s k u =
    let none : All (λ o. again t o ≤ 0) (drop r os) = λ j d h. (
    let l : r + j < length os = omega (arith, length-drop r os) in
    let e = get_or-drop r os j d ∙ get_or_default os (r + j) d no_ahead l in
    rw e (omega (arith, s.once (r + j) t l (omega (arith, k.behind (omega arith), s.rising r (r + j) (omega arith) l)) few))) in
    let z = sum_by-le (again t) 0 (drop r os) none in
    let e = sum_by-take-drop (again t) os r in
    record { under = omega (arith, e, z, u.under); same = λ h. omega (arith, e, z, u.same h) }

-- no slots bring nothing
pub window_none : (rs : List PlanRow) → window_of rs 0 ≡ 0
window_none [] = refl
window_none (r ∷ rs) =
    let e : ceiling 0 r.period ≡ 0 = elim (dec_lt r.period 1) [
      | yes h ↦ (let z : r.period ≡ 0 = omega arith in rw (z, div-zero (0 + (0 - 1))))
      | no h ↦ div-eq_of_lt (omega arith)
    ] in
    rw (e, window_none rs) (omega (arith, zero-mul r.cost))

-- ── What a search tells ──

pub found_at : (o : Option ℕ) (r : answer.Option ℕ) (t : ℕ) → r ≡ found_of o → r ≡ answer.Some t → o ≡ some t
found_at (some s) r t e q = let z : s ≡ t = cc in rw z
found_at none r t e q = let z : ◌≡◌ {A = ℕ} 0 1 = cc in absurd (omega arith)

pub found_none : (o : Option ℕ) (r : answer.Option ℕ) → r ≡ found_of o → ((t : ℕ) → r ≡ answer.Some t → ⊥) → o ≡ none
found_none none r e q = refl
found_none (some s) r e q = absurd (q s e)
