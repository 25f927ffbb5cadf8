-- An array whose elements are made by one function from those of another, and a test of each row. Assumes nothing.
use Rattle.std.proofs.Common.{ℕ, ◌≡◌, ◌<◌, ◌≤◌, ◌+◌, sym, ◌∙◌, take, Bool, true, false, cond, ◌&&◌, ap, List, [], ◌∷◌, map, length, get_or, refl, arith}
use mir.Val.{bool_byte}
use native.Mathlib.Numerals.{add-one}
use mathlib.Core.List.{map-append}
use lib.ListN.{set, length-set}
use lib.Seq.{take-suc, take-suc-set, take_all}
use Rattle.std.specs.List.{list_all}
use Rattle.channelfox.specs.declared.CRunRow.{CRunRow}
use Rattle.channelfox.specs.Forms.{is_form, every_form}

-- a bool as a number
pub bit : (b : Bool) → bool_byte b ≡ cond b 1 0
bit true = refl
bit false = refl

-- the first i elements are made
pub record Made {A B : Type 0} (f : A → B) (xs : List A) (ys : List B) (i : ℕ) : Type 0 where
  pub long : length xs ≡ 64
  pub room : length ys ≡ 64
  pub same : take i ys ≡ map f (take i xs)

module _ {A B : Type 0} {f : A → B} {xs : List A} {ys : List B} where
  pub made_next : {i : ℕ} (d : A) → Made f xs ys i → i < 64 → Made f xs (set ys i (f (get_or xs i d))) (i + 1)
  made_next {i} d m h =
      let v = f (get_or xs i d) in
      record {
        long = m.long;
        room = length-set ys i v ∙ m.room;
        same = rw (add-one, take-suc-set ys i v (omega (arith, h, m.long, m.room)), take-suc xs i d (omega (arith, h, m.long)), map-append, m.same);
      }

  pub made_all : {i : ℕ} → Made f xs ys i → 64 ≤ i → ys ≡ map f xs
  made_all {i} m h = sym (take_all i ys (omega (arith, h, m.long, m.room))) ∙ (m.same ∙ ap (map f) (take_all i xs (omega (arith, h, m.long))))

-- the walk of `all` is the definition's
pub each_form : (rows : List CRunRow) → list_all is_form rows ≡ every_form rows
unfolding every_form
each_form [] = refl
each_form (c ∷ cs) = ap (λ (b : Bool). is_form c && b) (each_form cs)
