-- Where a number that goes on, digit by digit, ends. Assumes nothing.
use Prim.Native.Nat.{ℕ, ◌+◌, ◌-◌, ◌<◌}
use mathlib.Core.Path.{◌≡◌, ap, ◌∙◌, sym}
use mathlib.Core.Bool.{false}
use mathlib.Core.List.{List, ◌∷◌}
use native.Mathlib.Omega.{arith}
use native.Mathlib.Numerals.{add-one}
use borrow.Author.Tests.{lt-ltb}
use lib.ListN.{length, take, drop, get_or, length-drop}
use lib.Seq.{drop-cons, take_all}
use Rattle.rules.specs.Sheet.{is_digit, number_from, field_end}
use Rattle.rules.proofs.Digits.{number_grows}
use Rattle.sheets.specs.Found.{WentOn}

-- all that is left of bytes
left : (s : List ℕ) (at : ℕ) → take (length s - at) (drop at s) ≡ drop at s
left s at = take_all (length s - at) (drop at s) (simp length-drop (omega arith))

module _ (limit first : ℕ) (s : List ℕ) (v at : ℕ) (state : number_from first s ≡ number_from v (drop at s)) where
  -- behind the last digit
  pub went_whole : at < length s → is_digit (get_or s at 0) ≡ false → WentOn limit first s v (take (length s - at) (drop at s))
  went_whole h e stop =
      let here : drop at s ≡ get_or s at 0 ∷ drop (at + 1) s = rw add-one (drop-cons s at 0 h) in
      let ends : number_from v (drop at s) ≡ (v, drop at s) = rw (here, e) in
      ap (λ (p : ℕ × List ℕ). field_end limit stop p.0 p.1) (state ∙ ends) ∙ ap (field_end limit stop v) (sym (left s at))

  -- where the number is too large already
  pub went_far : limit < v → WentOn limit first s v (take (length s - at) (drop at s))
  went_far h stop =
      let grown = number_grows v (drop at s) in
      ap (λ (p : ℕ × List ℕ). field_end limit stop p.0 p.1) state ∙ rw (lt-ltb limit (number_from v (drop at s)).0 (omega (arith, h, grown)), lt-ltb limit v h)
