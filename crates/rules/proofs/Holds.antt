-- The holds of request 6 along a slot: steps 1 and 3 begin none and end none. Assumes nothing.
use Prim.Native.Nat.{ℕ, zero, suc, ◌-◌, ◌≤◌, ◌<◌}
use mathlib.Core.Path.{◌≡◌, refl, sym, ◌∙◌}
use mathlib.Core.Bool.{Bool, true, false, cond, not, ◌&&◌}
use mathlib.Core.List.{List, [], ◌∷◌, map}
use native.Mathlib.Omega.{arith}
use borrow.Author.Tests.{eq-eqb, ne_eqb, le-ltb}
use lib.Dec.{eqb, leb, ltb}
use Rattle.rules.specs.declared.RunRow.{RunRow}
use Rattle.rules.specs.RunState.{done_of, in_hold, any}
use Rattle.rules.specs.Run.{released_of, begun_of, skipped_of, may_work, aged_of, step_one}
use Rattle.rules.proofs.Tests.{and_no}

-- ── One row ──

and_false : (a b : Bool) → a && false && b ≡ false
and_false true b = refl
and_false false b = refl

-- a row without work is in no hold
pub idle_free : (row : RunRow) → row.left ≡ 0 → in_hold row ≡ false
unfolding in_hold
idle_free row e = simp (eq-eqb _ _ e)

-- a job that has not begun its work is in no hold
pub fresh_free : (row : RunRow) → row.planned.cost ≤ row.left → in_hold row ≡ false
unfolding in_hold
fresh_free row h =
    let z : row.planned.cost - row.left ≡ 0 = omega arith in
    rw z (and_false (not (eqb row.left 0)) (ltb 0 row.planned.hold))

-- nor does a hold of 1 hold anything
pub one_free : (row : RunRow) → row.planned.hold < 2 → in_hold row ≡ false
unfolding in_hold
one_free row h = by_done (done_of row) (not (eqb row.left 0))
  where
    by_done : (n : ℕ) (b : Bool) → b && leb 1 n && ltb n row.planned.hold ≡ false
    by_done zero b = and_false b (ltb 0 row.planned.hold)
    by_done (suc n) b = rw (le-ltb (suc n) row.planned.hold (omega arith)) (and_no (b && leb 1 (suc n)))

skipped_hold : (clock : ℕ) (row : RunRow) → in_hold (skipped_of clock row) ≡ in_hold row
unfolding in_hold
skipped_hold clock row = refl

-- step 1 begins no hold and ends none
pub released_hold : (clock : ℕ) (row : RunRow) → in_hold (released_of clock row) ≡ in_hold row
unfolding released_of
released_hold clock row = by_left row.left refl (eqb row.next clock)
  where
    by_left : (n : ℕ) → row.left ≡ n → (due : Bool) → in_hold (cond due (cond (eqb row.left 0) (begun_of clock row) (skipped_of clock row)) row) ≡ in_hold row
    by_left n e false = refl
    by_left zero e true = rw (eq-eqb _ _ e) (fresh_free (begun_of clock row) (omega arith) ∙ sym (idle_free row e))
    by_left (suc n) e true =
        let b : row.left ≡ 0 → ⊥ = λ z. omega arith in
        rw (ne_eqb _ _ b) (skipped_hold clock row)

-- nor does step 3
pub aged_hold : (clock : ℕ) (row : RunRow) → in_hold (aged_of clock row) ≡ in_hold row
unfolding in_hold aged_of
aged_hold clock row = refl

-- a row without work never gets the slot
pub idle_rests : (holding : Bool) (row : RunRow) → row.left ≡ 0 → may_work holding row ≡ false
unfolding may_work
idle_rests true row e = idle_free row e
idle_rests false row e = simp (eq-eqb _ _ e)

-- ── All rows ──

-- what changes no row's hold
module _ (f : RunRow → RunRow) (q : (r : RunRow) → in_hold (f r) ≡ in_hold r) where
  any_same : (rows : List RunRow) → any in_hold (map f rows) ≡ any in_hold rows
  unfolding any
  any_same [] = refl
  any_same (r ∷ rs) = rw (q r, any_same rs)

pub any_released : (clock : ℕ) (rows : List RunRow) → any in_hold (step_one clock rows) ≡ any in_hold rows
any_released clock rows = any_same (released_of clock) (released_hold clock) rows
