-- A start: "Nothing is in hand or stored; skips are 0." It is acceptable, and nothing is left over.
-- Assumes that first releases, counted from the start, are below their periods.
use Rattle.std.specs.Prelude.{ℕ, zero, suc, ◌<◌, ◌≡◌, refl, List, [], ◌∷◌, length}
use Rattle.std.proofs.Common.{sym, ap, ◌∙◌, not-suc-le-zero, le_of_suc-le-suc, arith}
use Rattle.theory.specs.Model.{Object, object, at, objects, in_hold, unit, left_sum, Quiet, holders, Bounded, Past, Acceptable}
use Rattle.theory.proofs.Track.{objects_length}
use Rattle.theory.specs.Start.{start, starts}

pub start_at : (from : ℕ) (os : List Object) (firsts : ℕ → ℕ) (i : ℕ) → i < length os
    → at (starts from os firsts) i ≡ start from (object os i) (firsts i)
unfolding starts
start_at from [] firsts i h = absurd (not-suc-le-zero h)
start_at from (o ∷ os) firsts zero h = refl
start_at from (o ∷ os) firsts (suc i) h = start_at from os (λ j. firsts (suc j)) i (le_of_suc-le-suc h)

pub start_objects : (from : ℕ) (os : List Object) (firsts : ℕ → ℕ) → objects (starts from os firsts) ≡ os
unfolding starts objects
start_objects from [] firsts = refl
start_objects from (o ∷ os) firsts = ap {B = List Object} (λ q. o ∷ q) (start_objects from os (λ j. firsts (suc j)))

start_holders : (from : ℕ) (os : List Object) (firsts : ℕ → ℕ) → holders (starts from os firsts) ≡ 0
unfolding starts holders in_hold unit
start_holders from [] firsts = refl
start_holders from (o ∷ os) firsts = omega (arith, start_holders from os (λ j. firsts (suc j)))

start_bounded : (from : ℕ) (o : Object) (first : ℕ) → first < o.period → Bounded from (start from o first)
unfolding start
start_bounded from o first h =
    record { next_from = omega arith; next_below = omega arith; left_le = omega arith; work_le = omega arith; at_rest = λ z. refl }

start_past : (from : ℕ) (o : Object) (first : ℕ) → Past from (start from o first)
unfolding start
start_past from o first = record { in_hand = λ h. omega arith; stored = λ p y. let z : ◌≡◌ {A = ℕ} 0 1 = cc in absurd (omega arith) }

pub start_acceptable : (from : ℕ) (os : List Object) (firsts : ℕ → ℕ) → ((i : ℕ) → i < length os → firsts i < (object os i).period)
    → Acceptable from (starts from os firsts)
start_acceptable from os firsts h =
    let ws = starts from os firsts in
    let size : length ws ≡ length os = sym (objects_length ws) ∙ ap length (start_objects from os firsts) in
    record {
      bounded = λ i l. let l' = rw size at l in rw (start_at from os firsts i l') (start_bounded from (object os i) (firsts i) (h i l'));
      past = λ i l. rw (start_at from os firsts i (rw size at l)) (start_past from (object os i) (firsts i));
      one_hold_law = omega (arith, start_holders from os firsts);
    }

pub start_quiet : (from : ℕ) (os : List Object) (firsts : ℕ → ℕ) → Quiet (starts from os firsts)
unfolding starts left_sum
start_quiet from [] firsts = refl
start_quiet from (o ∷ os) firsts = omega (arith, start_quiet from os (λ j. firsts (suc j)))
