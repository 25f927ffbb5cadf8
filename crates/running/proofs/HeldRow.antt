-- At most one row is in its hold: its place, found from the front. Assumes nothing.
use Rattle.std.proofs.Common.{◌≡◌, ℕ, zero, suc, ◌+◌, ◌<◌, ◌≤◌, Bool, true, false, cond, not, ◌&&◌, ◌||◌, eqb, ltb, Some, None, List, [], ◌∷◌, length, get_or, take, sym, refl, ap, ◌∙◌, arith, eq-eqb, ne_eqb, ltb-false, length-take-le, get_or-take}
use native.Mathlib.Decide.{ℕ_discrete}
use Rattle.std.specs.List.{position, position_or_len}
use Rattle.std.proofs.lemmas.List.Quantifiers.{position-Some}
use Rattle.rules.specs.declared.RunRow.{RunRow}
use Rattle.rules.specs.RunState.{in_hold, any, one_hold}
use Rattle.rules.proofs.Tests.{and_right}
use Rattle.running.specs.HeldRow.{HeldBy}
use Rattle.rules.specs.Run.{no_run_row}
use Rattle.running.proofs.Elements.{get_d_any}
use Rattle.running.proofs.EachRow.{AllRest}

-- ── All rows ──

or_true : (a : Bool) → a || true ≡ true
or_true true = refl
or_true false = refl

module _ (p : RunRow → Bool) where
  pub any_at : (n : ℕ) (l : List RunRow) (i : ℕ) (d : RunRow) → i < n → n ≤ length l → p (get_or l i d) ≡ true → any p (take n l) ≡ true
  unfolding any
  any_at zero l i d h k e = absurd (omega arith)
  any_at (suc n) [] i d h k e = absurd (omega arith)
  any_at (suc n) (r ∷ rs) zero d h k e = rw e
  any_at (suc n) (r ∷ rs) (suc i) d h k e = rw (any_at n rs i d (omega arith) (omega arith) e) (or_true (p r))

  pub any_none : (n : ℕ) (l : List RunRow) → AllRest p n l → any p (take n l) ≡ false
  unfolding any
  any_none zero l q = refl
  any_none (suc n) [] q = refl
  any_none (suc n) (r ∷ rs) q = rw (q 0 r (omega arith), any_none n rs (λ i d k. q (suc i) d (omega arith)))

-- two rows in their holds are one
one_holder : (n : ℕ) (l : List RunRow) (i j : ℕ) (d e : RunRow) → one_hold (take n l) ≡ true → n ≤ length l → i < n → j < n → in_hold (get_or l i d) ≡ true → in_hold (get_or l j e) ≡ true → i ≡ j
unfolding one_hold
one_holder zero l i j d e o k a b p q = absurd (omega arith)
one_holder (suc n) [] i j d e o k a b p q = absurd (omega arith)
one_holder (suc n) (r ∷ rs) zero zero d e o k a b p q = refl
one_holder (suc n) (r ∷ rs) zero (suc j) d e o k a b p q =
    let z : false ≡ true = rw (p, any_at in_hold n rs j e (omega arith) (omega arith) q) at o in
    cc
one_holder (suc n) (r ∷ rs) (suc i) zero d e o k a b p q =
    let z : false ≡ true = rw (q, any_at in_hold n rs i d (omega arith) (omega arith) p) at o in
    cc
one_holder (suc n) (r ∷ rs) (suc i) (suc j) d e o k a b p q =
    ap suc (one_holder n rs i j d e (and_right (not (in_hold r && any in_hold (take n rs))) (one_hold (take n rs)) o) (omega arith) (omega arith) (omega arith) p q)

-- ── The search ──

-- no row before the place that is found is in its hold
none_before : (l : List RunRow) (i : ℕ) (d : RunRow) → i < position_or_len in_hold l → in_hold (get_or l i d) ≡ false
none_before [] i d h = absurd (omega arith)
none_before (r ∷ l) i d h = by_hold i (in_hold r) refl h (λ j. none_before l j d)
  where
    by_hold : (i : ℕ) (t : Bool) → in_hold r ≡ t → i < cond (not t) (1 + position_or_len in_hold l) 0 → ((j : ℕ) → j < position_or_len in_hold l → in_hold (get_or l j d) ≡ false) → in_hold (get_or (r ∷ l) i d) ≡ false
    by_hold i true e k q = absurd (omega arith)
    by_hold zero false e k q = e
    by_hold (suc i) false e k q = q i (omega arith)

module _ (n : ℕ) (l : List RunRow) (k : n ≤ length l) where
  pub held_nowhere : None ≡ position in_hold (take n l) → AllRest in_hold n l
  held_nowhere e = λ i d h. sym (ap in_hold (get_or-take n l i d h)) ∙ none_before (take n l) i d (by_test (ltb (position_or_len in_hold (take n l)) (length (take n l))) refl e i h)
    where
      by_test : (t : Bool) → ltb (position_or_len in_hold (take n l)) (length (take n l)) ≡ t → None ≡ cond t (Some (position_or_len in_hold (take n l))) None → (i : ℕ) → i < n → i < position_or_len in_hold (take n l)
      by_test true q z i h = let y : ◌≡◌ {A = ℕ} 0 1 = cc in absurd (omega arith)
      by_test false q z i h = omega (arith, h, ltb-false _ _ q, length-take-le n l k)

  -- the one in its hold, where at most one is
  pub held_here : one_hold (take n l) ≡ true → (i : ℕ) → Some i ≡ position in_hold (take n l) → (i < n) × HeldBy i n l
  held_here o i e = (here, λ j d h. by_hold j d h (in_hold (get_or l j d)) refl (ℕ_discrete j i))
    where
      found : (i < length (take n l)) × (in_hold (get_or (take n l) i no_run_row) ≡ true) × ((j : ℕ) → j < i → in_hold (get_or (take n l) j no_run_row) ≡ false)
      found = position-Some in_hold (take n l) i no_run_row (sym e)

      here : i < n
      here = omega (arith, found.0, length-take-le n l k)

      held : in_hold (get_or l i no_run_row) ≡ true
      held = sym (ap in_hold (get_or-take n l i no_run_row here)) ∙ found.1

      by_hold : (j : ℕ) (d : RunRow) → j < n → (t : Bool) → in_hold (get_or l j d) ≡ t → Dec (j ≡ i) → t ≡ eqb j i
      by_hold j d h true q s = sym (eq-eqb j i (one_holder n l j i d no_run_row o k h here q held))
      by_hold j d h false q (no s) = sym (ne_eqb j i s)
      by_hold j d h false q (yes s) = sym q ∙ rw (s, get_d_any l i d no_run_row (omega (arith, here, k)), held, eq-eqb i i refl)
