-- A condition on all rows, on their holds, or on all ids, looked at from the front: one turn of the loop, and the end. Assumes nothing.
use Rattle.std.proofs.Common.{◌≡◌, ℕ, ◌+◌, ◌-◌, ◌<◌, ◌≤◌, Bool, true, false, not, ◌&&◌, ◌||◌, eqb, List, [], ◌∷◌, map, length, get_or, take, drop, set, refl, ap, add-one, drop_of_length-le, drop-cons, take_all, length-drop, arith, take-suc, take-suc-set}
use mathlib.Core.List.{map-append}
use Rattle.std.specs.List.{list_all}
use Rattle.rules.specs.declared.RunRow.{RunRow}
use Rattle.rules.specs.RunState.{every, row_ok, id_of, not_in, distinct, in_hold, any, one_hold}
use Rattle.stepping.proofs.Lists.{next_of, end_of}
use Rattle.rules.proofs.Tests.{and_assoc, and_true}

-- ── All rows ──

pub every_is_all : (p : RunRow → Bool) (l : List RunRow) → every p l ≡ list_all p l
unfolding every
every_is_all p [] = refl
every_is_all p (r ∷ l) = ap (λ b. p r && b) (every_is_all p l)

-- ── All rows in use, and their holds ──

-- what the rows that are left have to meet, a row before them being in its hold or none
abbrev pub in_order : ℕ → Bool → List RunRow → Bool
in_order clock holding l = every (row_ok clock) l && (not (holding && any in_hold l) && one_hold l)

-- one row more: its own conditions, and whether it is a second one in its hold
one_more : (ok r h t e a o : Bool) → ok && (r && not (h && t)) && (e && (not ((h || t) && a) && o)) ≡ ok && (r && e && (not (h && (t || a)) && (not (t && a) && o)))
one_more false r h t e a o = refl
one_more true false h t e a o = refl
one_more true true true true true a o = refl
one_more true true true true false a o = refl
one_more true true true false e a o = refl
one_more true true false true e a o = refl
one_more true true false false e a o = refl

or_assoc : (a b c : Bool) → a || b || c ≡ a || (b || c)
or_assoc true b c = refl
or_assoc false b c = refl

module _ (rows : List RunRow) (n : ℕ) (h : n ≤ length rows) (holding : Bool) (i : ℕ) where
  pub order_turn : (clock : ℕ) (ok : Bool) (d : RunRow) → i < n → ok && (row_ok clock (get_or rows i d) && not (holding && in_hold (get_or rows i d))) && in_order clock (holding || in_hold (get_or rows i d)) (drop (i + 1) (take n rows)) ≡ ok && in_order clock holding (drop i (take n rows))
  unfolding every any one_hold
  order_turn clock ok d k = rw (next_of rows n h i d k, one_more ok (row_ok clock (get_or rows i d)) holding (in_hold (get_or rows i d)))

  pub order_end : (clock : ℕ) (ok : Bool) → n ≤ i → ok && in_order clock holding (drop i (take n rows)) ≡ ok
  unfolding every any one_hold
  order_end clock ok k = rw (end_of rows n h i k) (by_holding holding)
    where
      by_holding : (b : Bool) → ok && (not (b && false) && true) ≡ ok
      by_holding true = and_true ok
      by_holding false = and_true ok

  -- whether any is in its hold
  pub any_turn : (d : RunRow) → i < n → holding || in_hold (get_or rows i d) || any in_hold (drop (i + 1) (take n rows)) ≡ holding || any in_hold (drop i (take n rows))
  unfolding any
  any_turn d k = rw (next_of rows n h i d k, or_assoc)

  pub any_end : n ≤ i → holding || any in_hold (drop i (take n rows)) ≡ holding
  unfolding any
  any_end k = rw (end_of rows n h i k) (by_holding holding)
    where
      by_holding : (b : Bool) → b || false ≡ b
      by_holding true = refl
      by_holding false = refl

-- ── The ids ──

-- one id more
pub ids_more : (ids : List ℕ) (rows : List RunRow) (i : ℕ) (d : RunRow) → i < length ids → i < length rows → take i ids ≡ map id_of (take i rows) → take (i + 1) (set ids i (id_of (get_or rows i d))) ≡ map id_of (take (i + 1) rows)
ids_more ids rows i d h k e = rw (add-one, take-suc-set, take-suc rows i d, map-append, e)

-- those behind an id, as the code takes them
pub behind : (ids : List ℕ) (i : ℕ) → take (length ids - (i + 1)) (drop (i + 1) ids) ≡ drop (i + 1) ids
behind ids i = take_all (length ids - (i + 1)) (drop (i + 1) ids) (omega (arith, length-drop (i + 1) ids))

-- an id against those behind it
module _ (ids : List ℕ) (i : ℕ) where
  pub outer_turn : (differ : Bool) → i < length ids → differ && not_in (get_or ids i 0) (drop (i + 1) ids) && distinct (drop (i + 1) ids) ≡ differ && distinct (drop i ids)
  unfolding distinct
  outer_turn differ h = rw (add-one, drop-cons ids i 0, and_assoc)

  pub inner_turn : (new : Bool) (x : ℕ) → i < length ids → new && not (eqb x (get_or ids i 0)) && not_in x (drop (i + 1) ids) ≡ new && not_in x (drop i ids)
  unfolding not_in
  inner_turn new x h = rw (add-one, drop-cons ids i 0, and_assoc)

  pub outer_end : (differ : Bool) → length ids ≤ i → differ && distinct (drop i ids) ≡ differ
  unfolding distinct
  outer_end differ h = rw (drop_of_length-le ids, and_true)

  pub inner_end : (new : Bool) (x : ℕ) → length ids ≤ i → new && not_in x (drop i ids) ≡ new
  unfolding not_in
  inner_end new x h = rw (drop_of_length-le ids, and_true)
