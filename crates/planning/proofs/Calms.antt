-- The loop of `lower_calms`: from the last object back, each is lowered, up to the first that is low enough. Assumes nothing.
use Prim.Native.Nat.{ℕ, suc, ◌+◌, ◌≤◌, ◌<◌, min}
use mathlib.Core.Path.{◌≡◌, refl, sym, ◌∙◌}
use mathlib.Core.List.{List, [], ◌∷◌, ◌++◌, map, append_assoc}
use native.Mathlib.Omega.{arith}
use Rattle.std.proofs.lemmas.List.{take_more, drop_more, take_all, drop_all, get_or_at, set_at, map-append, take-append-drop, append-nil, length-take-le, get_or-take}
use lib.ListN.{length, take, drop, get_or, set}
use Rattle.planning.specs.declared.search.Ahead.{Ahead}
use Rattle.planning.specs.Paces.{no_ahead, Rising, lower}

-- those from `at` on are lowered
abbrev pub lowered : List Ahead → ℕ → ℕ → List Ahead
lowered os p at = take at os ++ map (lower p) (drop at os)

pub lowered_first : (os : List Ahead) (p : ℕ) → os ≡ lowered os p (length os)
lowered_first os p = rw (take_all (length os) os (omega arith), drop_all (length os) os (omega arith)) (sym (append-nil os))

pub lowered_last : (os : List Ahead) (p at : ℕ) → at ≤ 0 → lowered os p at ≡ map (lower p) os
lowered_last os p at h = let e : at ≡ 0 = omega arith in rw e

module _ (os : List Ahead) (p j : ℕ) (h : j < length os) where
  here : lowered os p (j + 1) ≡ take j os ++ get_or os j no_ahead ∷ map (lower p) (drop (j + 1) os)
  here = rw (take_more os j no_ahead h, append_assoc)

  length_front : length (take j os) ≡ j
  length_front = length-take-le j os (omega arith)

  pub standing : get_or (lowered os p (j + 1)) j no_ahead ≡ get_or os j no_ahead
  standing = rw here (get_or_at (take j os) (get_or os j no_ahead) (map (lower p) (drop (j + 1) os)) no_ahead j length_front)

  -- one further ahead
  pub lowered_next : p < (get_or os j no_ahead).calm → set (lowered os p (j + 1)) j (record { pace = (get_or os j no_ahead).pace; cost = (get_or os j no_ahead).cost; calm = p }) ≡ lowered os p j
  lowered_next l =
      let o = get_or os j no_ahead in
      let v : Ahead = record { pace = o.pace; cost = o.cost; calm = p } in
      let m : min o.calm p ≡ p = omega arith in
      rw (here, set_at (take j os) o (map (lower p) (drop (j + 1) os)) v j length_front, drop_more os j no_ahead h, m)

-- objects that are low enough stay as they are
low_enough : (os : List Ahead) (p : ℕ) → ((k : ℕ) → k < length os → (get_or os k no_ahead).calm ≤ p) → map (lower p) os ≡ os
low_enough [] p l = refl
low_enough (o ∷ os) p l =
    let m : min o.calm p ≡ o.calm = omega (arith, l 0 (omega arith)) in
    rw (m, low_enough os p (λ k h. l (suc k) (omega arith)))

-- and where one is, so are all ahead of it
pub lowered_enough : (os : List Ahead) (p j : ℕ) → j < length os → Rising os → (get_or os j no_ahead).calm ≤ p → lowered os p (j + 1) ≡ map (lower p) os
lowered_enough os p j h up l =
    let n : length (take (j + 1) os) ≡ j + 1 = length-take-le (j + 1) os (omega arith) in
    let e = low_enough (take (j + 1) os) p (λ k b. rw (get_or-take (j + 1) os k no_ahead (omega arith)) (omega (arith, up k j (omega arith) h))) in
    let f : map (lower p) (take (j + 1) os) ++ map (lower p) (drop (j + 1) os) ≡ map (lower p) os = sym (map-append (lower p) (take (j + 1) os) (drop (j + 1) os)) ∙ rw (take-append-drop (j + 1) os) in
    rw e at f
