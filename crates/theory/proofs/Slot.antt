-- Laws of one slot over any list of states: who does the unit, what is left, and what those behind can take from the first k.
-- Assumes nothing.
use Rattle.std.specs.Prelude.{ℕ, zero, suc, ◌+◌, ◌≤◌, ◌<◌, ◌≡◌, Bool, ◌||◌, List, [], ◌∷◌, take, drop}
use Rattle.std.proofs.Math.Path.{refl, ap, ap₂}
use Rattle.std.proofs.Common.{◌∙◌, inl, inr}
use Rattle.std.proofs.Math.Bool.{true, false}
use Rattle.std.proofs.lemmas.Bool.{false≢true}
use native.Mathlib.Omega.{arith}
use Rattle.theory.specs.Model.{State, release, releases, worked, has_work, in_hold, may_work, any, work_first, step_two, slot}
use Rattle.theory.specs.Model.{left_sum, unit, holders}
use Rattle.theory.proofs.Cases.{yes_or_no, unit_le}
use Rattle.theory.proofs.Holds.{work_left, no_work, in_hold_law, owed_sum, worked_left, worked_le, pay}
use Rattle.theory.proofs.Holds.{release_hold, release_owed, no_holders}

-- ── Step 1 over a list ──

releases_take : (k now : ℕ) (g : ℕ → ℕ) (ws : List State) → take k (releases now g ws) ≡ releases now g (take k ws)
unfolding releases
releases_take zero now g ws = refl
releases_take (suc k) now g [] = refl
releases_take (suc k) now g (w ∷ ws) = ap {B = List State} (λ q. release now (g 0) w ∷ q) (releases_take k now (λ i. g (suc i)) ws)

releases_owed : (k now : ℕ) (g : ℕ → ℕ) (ws : List State) → owed_sum (drop k (releases now g ws)) ≡ owed_sum (drop k ws)
unfolding releases owed_sum
releases_owed zero now g [] = refl
releases_owed zero now g (w ∷ ws) = ap₂ (λ a b. a + b) (release_owed now (g 0) w) (releases_owed 0 now (λ i. g (suc i)) ws)
releases_owed (suc k) now g [] = refl
releases_owed (suc k) now g (w ∷ ws) = releases_owed k now (λ i. g (suc i)) ws

pub releases_hold : (k now : ℕ) (g : ℕ → ℕ) (ws : List State) → any in_hold (drop k (releases now g ws)) ≡ any in_hold (drop k ws)
unfolding releases any
releases_hold zero now g [] = refl
releases_hold zero now g (w ∷ ws) = ap₂ (λ a b. a || b) (release_hold now (g 0) w) (releases_hold 0 now (λ i. g (suc i)) ws)
releases_hold (suc k) now g [] = refl
releases_hold (suc k) now g (w ∷ ws) = releases_hold k now (λ i. g (suc i)) ws

releases_holders : (now : ℕ) (g : ℕ → ℕ) (ws : List State) → holders (releases now g ws) ≡ holders ws
unfolding releases holders
releases_holders now g [] = refl
releases_holders now g (w ∷ ws) = ap₂ (λ a b. unit a + b) (release_hold now (g 0) w) (releases_holders now (λ i. g (suc i)) ws)

-- ── Step 2 over a list: the first k are ahead of the others ──

first_take : (k : ℕ) (p : State → Bool) (ws : List State) → take k (work_first p ws) ≡ work_first p (take k ws)
unfolding work_first
first_take zero p ws = refl
first_take (suc k) p [] = refl
first_take (suc k) p (w ∷ ws) = elim (yes_or_no (p w)) [
  | inl e ↦ rw e refl
  | inr e ↦ rw e (ap {B = List State} (λ q. w ∷ q) (first_take k p ws))
]

-- the work left does not grow
left_down : (k : ℕ) (p : State → Bool) (ws : List State) → left_sum (drop k (work_first p ws)) ≤ left_sum (drop k ws)
unfolding work_first left_sum
left_down zero p [] = omega arith
left_down zero p (w ∷ ws) = elim (yes_or_no (p w)) [
  | inl e ↦ rw e (omega (arith, worked_le w))
  | inr e ↦ rw e (let ih = left_down 0 p ws in omega arith)
]
left_down (suc k) p [] = omega arith
left_down (suc k) p (w ∷ ws) = elim (yes_or_no (p w)) [
  | inl e ↦ rw e (omega arith)
  | inr e ↦ rw e (left_down k p ws)
]

-- one unit is done, if any of these may do it
one_unit : (p : State → Bool) → ((w : State) → p w ≡ true → 0 < w.left) → (ws : List State) → any p ws ≡ true
    → left_sum (work_first p ws) + 1 ≡ left_sum ws
unfolding any work_first left_sum
one_unit p h [] e = absurd (false≢true e)
one_unit p h (w ∷ ws) e = elim (yes_or_no (p w)) [
  | inl y ↦ rw y (omega (arith, worked_left w (h w y)))
  | inr n ↦ rw n (let ih = one_unit p h ws (rw n at e) in omega arith)
]

some_work : (ws : List State) → 0 < left_sum ws → any has_work ws ≡ true
unfolding any left_sum
some_work [] h = absurd (omega arith)
some_work (w ∷ ws) h = elim (yes_or_no (has_work w)) [
  | inl y ↦ rw y refl
  | inr n ↦ rw n (some_work ws (omega (arith, no_work w n)))
]

-- with no hold going on, objects with work left leave nothing to those behind
first_ahead : (k : ℕ) (ws : List State) → 0 < left_sum (take k ws) → drop k (work_first has_work ws) ≡ drop k ws
unfolding work_first left_sum
first_ahead zero ws h = absurd (omega arith)
first_ahead (suc k) [] h = absurd (omega arith)
first_ahead (suc k) (w ∷ ws) h = elim (yes_or_no (has_work w)) [
  | inl y ↦ rw y refl
  | inr n ↦ rw n (first_ahead k ws (omega (arith, no_work w n)))
]

-- while a hold goes on, each unit is paid by what is owed
hold_pays : (k : ℕ) (ws : List State)
    → left_sum (drop k ws) + owed_sum (drop k (work_first in_hold ws)) ≤ left_sum (drop k (work_first in_hold ws)) + owed_sum (drop k ws)
unfolding work_first left_sum owed_sum
hold_pays zero [] = omega arith
hold_pays zero (w ∷ ws) = elim (yes_or_no (in_hold w)) [
  | inl y ↦ rw y (let i = in_hold_law w y in omega (arith, worked_left w i.left_pos, pay w y))
  | inr n ↦ rw n (let ih = hold_pays 0 ws in omega arith)
]
hold_pays (suc k) [] = omega arith
hold_pays (suc k) (w ∷ ws) = elim (yes_or_no (in_hold w)) [
  | inl y ↦ rw y (omega arith)
  | inr n ↦ rw n (hold_pays k ws)
]

-- at most one job is in its hold: no other begins while one is
holders_keep : (ws : List State) → holders (work_first in_hold ws) ≤ holders ws
unfolding work_first holders unit
holders_keep [] = omega arith
holders_keep (w ∷ ws) = elim (yes_or_no (in_hold w)) [
  | inl y ↦ rw y (omega (arith, unit_le (in_hold (worked w))))
  | inr n ↦ rw n (rw n (let ih = holders_keep ws in omega arith))
]

holders_begin : (ws : List State) → holders ws ≡ 0 → holders (work_first has_work ws) ≤ 1
unfolding work_first holders
holders_begin [] h = omega arith
holders_begin (w ∷ ws) h = elim (yes_or_no (has_work w)) [
  | inl y ↦ rw y (omega (arith, unit_le (in_hold (worked w))))
  | inr n ↦ rw n (let ih = holders_begin ws (omega arith) in omega arith)
]

-- ── The slot ──

pub left_split : (k : ℕ) (ws : List State) → left_sum ws ≡ left_sum (take k ws) + left_sum (drop k ws)
unfolding left_sum
left_split zero ws = omega arith
left_split (suc k) [] = omega arith
left_split (suc k) (w ∷ ws) = let ih = left_split k ws in omega arith

any_split : (k : ℕ) (ws : List State) → any in_hold (drop k ws) ≡ false → any in_hold ws ≡ any in_hold (take k ws)
unfolding any
any_split zero ws h = h
any_split (suc k) [] h = refl
any_split (suc k) (w ∷ ws) h = ap (λ b. in_hold w || b) (any_split k ws h)

may_left : (held : Bool) (w : State) → may_work held w ≡ true → 0 < w.left
may_left true w h = (in_hold_law w h).left_pos
may_left false w h = work_left w h

module _ (now : ℕ) (g : ℕ → ℕ) (ws : List State) where
  -- the states after step 1
  abbrev pub after : List State
  after = releases now g ws

  -- one unit a slot: a slot that is not stolen does one unit, if work is pending, and a stolen one none
  pub slot_unit : 0 < left_sum after → left_sum (slot now g false ws) + 1 ≡ left_sum after
  unfolding slot step_two
  slot_unit h = go (any in_hold after) refl
    where
      go : (held : Bool) → any in_hold after ≡ held → left_sum (work_first (may_work held) after) + 1 ≡ left_sum after
      go true e = one_unit in_hold (may_left true) after e
      go false e = one_unit has_work (may_left false) after (some_work after h)

  pub slot_stolen : slot now g true ws ≡ after
  unfolding slot step_two
  slot_stolen = refl

  -- at most one job is in its hold
  pub slot_holders : (v : Bool) → holders ws ≤ 1 → holders (slot now g v ws) ≤ 1
  unfolding slot step_two
  slot_holders true h = rw (releases_holders now g ws) h
  slot_holders false h = go (any in_hold after) refl
    where
      go : (held : Bool) → any in_hold after ≡ held → holders (work_first (may_work held) after) ≤ 1
      go true e = omega (arith, holders_keep after, releases_holders now g ws)
      go false e = holders_begin after (no_holders after e)

  module _ (k : ℕ) where
    pub slot_down : (v : Bool) → left_sum (drop k (slot now g v ws)) ≤ left_sum (drop k after)
    unfolding slot step_two
    slot_down true = omega arith
    slot_down false = left_down k (may_work (any in_hold after)) after

    -- where an object ahead has work pending, those behind do only what they owe of a hold
    pub slot_behind : (v : Bool) → 0 < left_sum (releases now g (take k ws))
        → left_sum (drop k after) + owed_sum (drop k (slot now g v ws)) ≤ left_sum (drop k (slot now g v ws)) + owed_sum (drop k ws)
    unfolding slot step_two
    slot_behind true h = rw (releases_owed k now g ws) (omega arith)
    slot_behind false h = rw (← releases_owed k now g ws) (go (any in_hold after))
      where
        go : (held : Bool)
            → left_sum (drop k after) + owed_sum (drop k (work_first (may_work held) after))
            ≤ left_sum (drop k (work_first (may_work held) after)) + owed_sum (drop k after)
        go true = hold_pays k after
        go false = rw (first_ahead k after (rw (releases_take k now g ws) h)) (omega arith)

    -- so the work of those ahead and what is owed behind them go down together, but for a stolen slot
    pub slot_law : (v : Bool) → 0 < left_sum (releases now g (take k ws))
        → left_sum (take k (slot now g v ws)) + owed_sum (drop k (slot now g v ws)) + 1
        ≤ left_sum (releases now g (take k ws)) + owed_sum (drop k ws) + unit v
    unfolding unit
    slot_law true h = rw (slot_stolen, releases_owed k now g ws, releases_take k now g ws) (omega arith)
    slot_law false h =
        let a = left_split k (slot now g false ws) in
        let b = rw (releases_take k now g ws) at (left_split k after) in
        omega (arith, slot_unit (omega arith), slot_behind false h)

    -- those ahead with no work pending have none left after the slot
    pub slot_idle : (v : Bool) → left_sum (releases now g (take k ws)) ≡ 0 → left_sum (take k (slot now g v ws)) ≡ 0
    unfolding slot step_two
    slot_idle true h = rw (releases_take k now g ws) h
    slot_idle false h =
        let p = may_work (any in_hold after) in
        rw (first_take k p after, releases_take k now g ws) (omega (arith, left_down 0 p (releases now g (take k ws))))

    -- where no job behind is in its hold, those ahead go on as if they were alone
    pub slot_take : (v : Bool) → any in_hold (drop k ws) ≡ false → take k (slot now g v ws) ≡ slot now g v (take k ws)
    unfolding slot step_two
    slot_take true h = releases_take k now g ws
    slot_take false h =
        let e = any_split k after (releases_hold k now g ws ∙ h) ∙ ap (any in_hold) (releases_take k now g ws) in
        first_take k (may_work (any in_hold after)) after ∙ ap₂ (λ held ps. work_first (may_work held) ps) e (releases_take k now g ws)
