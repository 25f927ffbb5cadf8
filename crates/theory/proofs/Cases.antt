-- Case by case: tests, and what step 1 and a unit of work can make of a state. Assumes nothing.
use Rattle.std.specs.Prelude.{ℕ, ◌≤◌, ◌<◌, ◌≡◌, refl, ◌≢◌, ◌⊎◌, Bool, true, false, cond, ◌&&◌, ◌||◌, eqb, leb}
use Rattle.std.proofs.Common.{inl, inr, true≢false, arith, eqb-true, leb-true}
use Rattle.std.proofs.lemmas.Bool.{false≢true, eqb-false}
use Rattle.theory.specs.Model.{State, actual, begun, skipped, release, finished, one_less, worked, unit}

-- ── Tests ──

pub yes_or_no : (b : Bool) → (b ≡ true) ⊎ (b ≡ false)
yes_or_no true = inl refl
yes_or_no false = inr refl

pub and_both : (a b : Bool) → a && b ≡ true → (a ≡ true) × (b ≡ true)
and_both true true h = (refl, refl)
and_both true false h = absurd (false≢true h)
and_both false b h = absurd (false≢true h)

pub or_neither : (a b : Bool) → a || b ≡ false → (a ≡ false) × (b ≡ false)
or_neither false false h = (refl, refl)
or_neither false true h = absurd (true≢false h)
or_neither true b h = absurd (true≢false h)

pub unit_le : (b : Bool) → unit b ≤ 1
unfolding unit
unit_le true = omega arith
unit_le false = omega arith

-- what holds of both arms, each where the test says so
pub cond_holds : {A : Type 0} (P : A → Type 0) (d : Bool) (x y : A) → (d ≡ true → P x) → (d ≡ false → P y) → P (cond d x y)
cond_holds P true x y f g = f refl
cond_holds P false x y f g = g refl

-- ── States ──

-- the actual work is from 1 to the cost
pub actual_le : (cost given : ℕ) → actual cost given ≤ cost
unfolding actual
actual_le cost given =
    let t = leb 1 given && leb given cost in
    cond_holds (λ x. x ≤ cost) t given cost (λ e. leb-true given cost (and_both (leb 1 given) (leb given cost) e).1) (λ e. omega arith)

pub actual_pos : (cost given : ℕ) → 0 < cost → 0 < actual cost given
unfolding actual
actual_pos cost given h =
    let t = leb 1 given && leb given cost in
    cond_holds (λ x. 0 < x) t given cost (λ e. leb-true 1 given (and_both (leb 1 given) (leb given cost) e).0) (λ e. h)

pub release_holds : (P : State → Type 0) (now g : ℕ) (w : State)
    → (w.next ≢ now → P w) → (w.next ≡ now → w.left ≡ 0 → P (begun now g w)) → (w.next ≡ now → 0 < w.left → P (skipped w))
    → P (release now g w)
unfolding release
release_holds P now g w rests begins skips =
    cond_holds P (eqb w.next now) (cond (eqb w.left 0) (begun now g w) (skipped w)) w
    (λ d. cond_holds P (eqb w.left 0) (begun now g w) (skipped w)
    (λ e. begins (eqb-true w.next now d) (eqb-true w.left 0 e))
    (λ e. let n : w.left ≢ 0 = eqb-false w.left 0 e in skips (eqb-true w.next now d) (omega arith)))
    (λ d. rests (eqb-false w.next now d))

pub work_holds : (P : State → Type 0) (w : State)
    → (w.left ≡ 0 → P w) → (w.left ≡ 1 → P (finished w)) → (1 < w.left → P (one_less w)) → P (worked w)
unfolding worked
work_holds P w none last more =
    cond_holds P (eqb w.left 0) w (cond (eqb w.left 1) (finished w) (one_less w))
    (λ d. none (eqb-true w.left 0 d))
    (λ d. cond_holds P (eqb w.left 1) (finished w) (one_less w)
    (λ e. last (eqb-true w.left 1 e))
    (λ e.
    let m : w.left ≢ 0 = eqb-false w.left 0 d in
    let n : w.left ≢ 1 = eqb-false w.left 1 e in
    more (omega arith)))
