-- At most one job is in its hold, in 32 bits exactly if in the theory. Assumes that the same jobs are in theirs.
use Rattle.std.specs.Prelude.{ℕ, ◌+◌, ◌≤◌, ◌≡◌, ◌&&◌, List, [], ◌∷◌}
use Rattle.std.proofs.Math.Path.{refl}
use Rattle.std.proofs.Math.Bool.{Bool, true, false, not}
use Rattle.std.proofs.Common.{inl, inr}
use native.Mathlib.Omega.{arith}
use Rattle.std.proofs.lemmas.Bool.{not-true}
use Rattle.rules.specs.declared.PlanRow.{PlanRow}
use Rattle.rules.specs.RunState.{one_hold}
use Rattle.rules.proofs.Tests.{and_left, and_right}
use Rattle.theory.specs.Model.{State, in_hold, any, unit, holders}
use Rattle.theory.proofs.Cases.{yes_or_no}
use Rattle.theory.proofs.Holds.{no_holders}
use Rattle.promises.specs.Encode.{encodes}
use Rattle.promises.proofs.Steps.{SameHold, Each, any_same}
use Rattle.promises.proofs.Steps.Each.{over, also}

none_any : (ws : List State) → holders ws ≡ 0 → any in_hold ws ≡ false
unfolding any holders unit
none_any [] h = refl
none_any (w ∷ ws) h = elim (yes_or_no (in_hold w)) [
  | inl y ↦ let z = rw y at h in absurd (omega arith)
  | inr n ↦ rw n (none_any ws (omega arith))
]

module _ (now : ℕ) where
  pub one_to : {ps : List PlanRow} {ws : List State} → Each (SameHold now) ps ws → holders ws ≤ 1 → one_hold (encodes now ps ws) ≡ true
  unfolding one_hold encodes holders unit
  one_to over h = refl
  one_to (also {w = w} {ps = ps} {ws = ws} e es) h = rw (e, any_same now es) (by_hold (in_hold w) h (one_to es))
    where
      by_hold : (b : Bool) → unit b + holders ws ≤ 1 → (holders ws ≤ 1 → one_hold (encodes now ps ws) ≡ true)
          → not (b && any in_hold ws) && one_hold (encodes now ps ws) ≡ true
      by_hold true l ih = rw (none_any ws (omega arith)) (ih (omega arith))
      by_hold false l ih = ih (omega arith)

  pub one_from : {ps : List PlanRow} {ws : List State} → Each (SameHold now) ps ws → one_hold (encodes now ps ws) ≡ true → holders ws ≤ 1
  unfolding one_hold encodes holders unit
  one_from over h = omega arith
  one_from (also {w = w} {ps = ps} {ws = ws} e es) h = by_hold (in_hold w) (rw (e, any_same now es) at h) (one_from es)
    where
      others : Bool
      others = one_hold (encodes now ps ws)

      by_hold : (b : Bool) → not (b && any in_hold ws) && others ≡ true → (others ≡ true → holders ws ≤ 1) → unit b + holders ws ≤ 1
      by_hold true o ih = omega (arith, no_holders ws (not-true _ (and_left (not (any in_hold ws)) others o)))
      by_hold false o ih = omega (arith, ih (and_right true others o))
