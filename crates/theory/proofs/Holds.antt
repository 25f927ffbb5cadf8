-- Holds: which jobs are in theirs, and what they still owe of it. Assumes nothing.
-- What is owed is a number, so that the slots a hold takes from the objects ahead are paid for by a sum that falls.
use Rattle.std.specs.Prelude.{ℕ, zero, suc, ◌+◌, ◌-◌, ◌≤◌, ◌<◌, ◌≡◌, refl, ◌≢◌, Bool, true, false, not, cond, ◌&&◌, List, [], ◌∷◌, drop, eqb, leb, ltb}
use Rattle.std.proofs.Common.{sym, ◌∙◌, inl, inr, true≢false, arith, eqb-true, leb-true, ltb-true}
use Rattle.std.proofs.lemmas.Bool.{false≢true, eqb-false}
use Rattle.theory.specs.Model.{State, objects, begun, skipped, release, finished, one_less, worked, done_of, has_work, in_hold, any, unit}
use Rattle.theory.specs.Model.{holders, hold_behind}
use Rattle.theory.proofs.Cases.{yes_or_no, and_both, or_neither, release_holds, work_holds}

-- ── One object ──

pub work_left : (w : State) → has_work w ≡ true → 0 < w.left
work_left w h = go (eqb w.left 0) refl h
  where
    go : (b : Bool) → eqb w.left 0 ≡ b → not b ≡ true → 0 < w.left
    go true e h = absurd (false≢true h)
    go false e h = let n : w.left ≢ 0 = eqb-false w.left 0 e in omega arith

pub no_work : (w : State) → has_work w ≡ false → w.left ≡ 0
no_work w h = go (eqb w.left 0) refl h
  where
    go : (b : Bool) → eqb w.left 0 ≡ b → not b ≡ false → w.left ≡ 0
    go true e h = eqb-true w.left 0 e
    go false e h = absurd (true≢false h)

-- what the test of a hold says
pub record InHold (w : State) : Type 0 where
  pub left_pos : 0 < w.left
  pub done_pos : 1 ≤ done_of w
  pub short : done_of w < w.planned.hold

pub in_hold_law : (w : State) → in_hold w ≡ true → InHold w
unfolding in_hold
in_hold_law w h =
    let p = and_both (has_work w && leb 1 (done_of w)) (ltb (done_of w) w.planned.hold) h in
    let q = and_both (has_work w) (leb 1 (done_of w)) p.0 in
    record { left_pos = work_left w q.0; done_pos = leb-true 1 (done_of w) q.1; short = ltb-true (done_of w) w.planned.hold p.1 }

-- so is no job without work left, none that has not begun, and none of an object whose hold is 1
not_in_hold : (w : State) → (InHold w → ⊥) → in_hold w ≡ false
not_in_hold w h = elim (yes_or_no (in_hold w)) [ inl e ↦ absurd (h (in_hold_law w e)) | inr e ↦ e ]

pub unheld : (w : State) → w.planned.hold ≤ 1 → in_hold w ≡ false
unheld w h = not_in_hold w (λ x. omega arith)

-- the units of its hold that a job still owes
unfoldable pub owed : State → ℕ
owed w = cond (in_hold w) (w.planned.hold - done_of w) 0

owed_none : (w : State) → in_hold w ≡ false → owed w ≡ 0
unfolding owed
owed_none w h = rw h refl

owed_most : (w : State) → owed w ≤ w.planned.hold - done_of w
unfolding owed
owed_most w = elim (yes_or_no (in_hold w)) [ inl e ↦ rw e (omega arith) | inr e ↦ rw e (omega arith) ]

-- a unit takes 1 from the work left, and 1 or more from what is owed
pub worked_left : (w : State) → 0 < w.left → (worked w).left + 1 ≡ w.left
unfolding finished one_less
worked_left w h = work_holds (λ u. u.left + 1 ≡ w.left) w (λ e. absurd (omega arith)) (λ e. omega arith) (λ e. omega arith)

pub worked_le : (w : State) → (worked w).left ≤ w.left
unfolding finished one_less
worked_le w = work_holds (λ u. u.left ≤ w.left) w (λ e. omega arith) (λ e. omega arith) (λ e. omega arith)

worked_owed : (w : State) → InHold w → owed (worked w) + 1 ≤ w.planned.hold - done_of w
unfolding finished one_less
worked_owed w h =
    work_holds (λ u. owed u + 1 ≤ w.planned.hold - done_of w) w
    (λ e. absurd (omega arith))
    (λ e. omega (arith, owed_none (finished w) (not_in_hold (finished w) (λ x. omega arith))))
    (λ e. omega (arith, owed_most (one_less w)))

pub pay : (w : State) → in_hold w ≡ true → owed (worked w) + 1 ≤ owed w
unfolding owed
pay w h = rw h (worked_owed w (in_hold_law w h))

-- step 1 changes no hold, and nothing in what is owed
pub release_hold : (now g : ℕ) (w : State) → in_hold (release now g w) ≡ in_hold w
unfolding begun skipped in_hold
release_hold now g w =
    release_holds (λ u. in_hold u ≡ in_hold w) now g w
    (λ d. refl)
    (λ d e. not_in_hold (begun now g w) (λ x. omega arith) ∙ sym (not_in_hold w (λ x. omega arith)))
    (λ d e. refl)

pub release_owed : (now g : ℕ) (w : State) → owed (release now g w) ≡ owed w
unfolding begun skipped owed in_hold
release_owed now g w =
    release_holds (λ u. owed u ≡ owed w) now g w
    (λ d. refl)
    (λ d e.
    owed_none (begun now g w) (not_in_hold (begun now g w) (λ x. omega arith))
    ∙ sym (owed_none w (not_in_hold w (λ x. omega arith))))
    (λ d e. refl)

-- ── A list of objects ──

unfoldable pub owed_sum : List State → ℕ
owed_sum [] = 0
owed_sum (w ∷ ws) = owed w + owed_sum ws

-- a job in its hold owes at most that hold, less 1; so do all of them together, where at most one is
owed_le : (w : State) → owed w ≤ w.planned.hold - 1
unfolding owed
owed_le w = elim (yes_or_no (in_hold w)) [
  | inl y ↦ rw y (let i = in_hold_law w y in omega arith)
  | inr n ↦ rw n (omega arith)
]

none_owed : (ws : List State) → holders ws ≡ 0 → owed_sum ws ≡ 0
unfolding holders owed_sum unit
none_owed [] h = refl
none_owed (w ∷ ws) h = elim (yes_or_no (in_hold w)) [
  | inl y ↦ let z = rw y at h in absurd (omega arith)
  | inr n ↦ omega (arith, owed_none w n, none_owed ws (omega arith))
]

pub holders_owed : (k : ℕ) (ws : List State) → holders ws ≤ 1 → owed_sum (drop k ws) ≤ hold_behind (objects (drop k ws))
unfolding holders owed_sum objects hold_behind unit
holders_owed zero [] h = omega arith
holders_owed zero (w ∷ ws) h = elim (yes_or_no (in_hold w)) [
  | inl y ↦ let z = rw y at h in omega (arith, owed_le w, none_owed ws (omega arith))
  | inr n ↦ let z = rw n at h in omega (arith, owed_none w n, holders_owed 0 ws (omega arith))
]
holders_owed (suc k) [] h = omega arith
holders_owed (suc k) (w ∷ ws) h = holders_owed k ws (omega arith)

pub no_holders : (ws : List State) → any in_hold ws ≡ false → holders ws ≡ 0
unfolding any holders unit
no_holders [] h = refl
no_holders (w ∷ ws) h =
    let p = or_neither (in_hold w) (any in_hold ws) h in
    rw p.0 (omega (arith, no_holders ws p.1))
