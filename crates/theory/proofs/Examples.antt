-- Worked examples: plans that the theorems apply to. Assumes nothing.
use Rattle.std.specs.Prelude.{ℕ, zero, suc, ◌+◌, ◌≤◌, ◌<◌, ◌≡◌, refl, Bool, List, [], ◌∷◌, get_or, take, drop}
use Rattle.std.proofs.Common.{arith}
use Rattle.theory.specs.Model.{Object, object, objects, no_object, Course, history, state, plans_of, Quiet, FreshAt}
use Rattle.theory.specs.Model.{stolen_sum, Unstolen, Acceptable, window_of, hold_behind, cost_sum, brings, Meets, Planned}
use Rattle.theory.specs.Stolen.{thief_within}
use Rattle.theory.proofs.InTime.{freshness}
use Rattle.theory.proofs.Plans.{balanced_meets, thief_meets}
use Rattle.theory.specs.Start.{starts}
use Rattle.theory.proofs.Start.{start_acceptable, start_quiet}
use Rattle.theory.proofs.Theorems.{recovers_unstolen, always_fresh}
use Rattle.theory.specs.Examples.{starts_at, costs, none_stolen, pair, figure2}

-- ── Holds and actual works ──

pair_planned : Planned pair
unfolding no_object window_of hold_behind
pair_planned zero h = balanced_meets [] (drop 1 pair) (object pair 0) (omega arith) (omega arith) 3 refl (omega arith)
pair_planned (suc zero) h = balanced_meets (take 1 pair) [] (object pair 1) (omega arith) (omega arith) 5 refl (omega arith)
pair_planned (suc (suc i)) h = absurd (omega arith)

pair_firsts : (i : ℕ) → i < 2 → get_or (1 ∷ 0 ∷ []) i 0 < (object pair i).period
unfolding no_object
pair_firsts zero h = omega arith
pair_firsts (suc zero) h = omega arith
pair_firsts (suc (suc i)) h = absurd (omega arith)

-- so each value of the short one is fresh from instant 9 on, for ever, whatever works are given
pair_fresh : (works : ℕ → ℕ → ℕ) (t : ℕ) → 9 ≤ t → FreshAt (state (starts_at 0 pair (1 ∷ 0 ∷ []) works none_stolen) 0 t) (0 + t) 9
unfolding starts history objects
pair_fresh works t h =
    let firsts : ℕ → ℕ = λ i. get_or (1 ∷ 0 ∷ []) i 0 in
    always_fresh (starts_at 0 pair (1 ∷ 0 ∷ []) works none_stolen) (start_acceptable 0 pair firsts pair_firsts) pair_planned 0 (omega arith)
    0 t (λ u x y. refl) (start_quiet 0 pair firsts) (omega arith) t h (omega arith)

-- ── The plain run ──

figure2_planned : Planned figure2
unfolding no_object window_of hold_behind
figure2_planned zero h = balanced_meets [] (drop 1 figure2) (object figure2 0) (omega arith) (omega arith) 2 refl (omega arith)
figure2_planned (suc zero) h =
    balanced_meets (take 1 figure2) (drop 2 figure2) (object figure2 1) (omega arith) (omega arith) 4 refl (omega arith)
figure2_planned (suc (suc zero)) h = balanced_meets (take 2 figure2) [] (object figure2 2) (omega arith) (omega arith) 6 refl (omega arith)
figure2_planned (suc (suc (suc i))) h = absurd (omega arith)

-- ── After a stall ──

-- (1,8), (1,10), (1,12) has periods 7, 8, 9, and 6 slots are enough
abbrev table5 : List Object
table5 =
    record { cost = 1; validity = 8; deadline = 1; period = 7; hold = 1 }
    ∷ record { cost = 1; validity = 10; deadline = 2; period = 8; hold = 1 }
    ∷ record { cost = 1; validity = 12; deadline = 3; period = 9; hold = 1 }
    ∷ []

table5_recovers : (c : Course) → Acceptable c.from c.begin → plans_of c ≡ table5
    → (b : ℕ) → Unstolen c.stolen b (b + 6) → (z : ℕ) × (b < z) × (z ≤ b + 6) × Quiet (history c z)
unfolding cost_sum window_of
table5_recovers c ok e = recovers_unstolen c ok 6 (omega arith) (rw e (omega arith))

-- ── Stolen slots ──

-- with at most one of any 4 slots stolen, (2,8) can keep a deadline of 3
abbrev lone : Object
lone = record { cost = 2; validity = 8; deadline = 3; period = 5; hold = 1 }

abbrev thief : Object
thief = record { cost = 1; validity = 0; deadline = 0; period = 4; hold = 1 }

lone_meets : Meets (λ x. brings x thief) [] [] lone
unfolding window_of hold_behind
lone_meets = thief_meets thief [] [] lone (balanced_meets (thief ∷ []) [] lone (omega arith) (omega arith) 3 refl (omega arith))

lone_fresh : (stolen : ℕ → Bool) → ((u x : ℕ) → x ≤ 4 → stolen_sum stolen u x ≤ 1)
    → (t : ℕ) → 8 ≤ t → FreshAt (state (starts_at 0 (lone ∷ []) (0 ∷ []) costs stolen) 0 t) (0 + t) 8
unfolding starts history objects
lone_fresh stolen few t h =
    let firsts : ℕ → ℕ = λ i. get_or (0 ∷ []) i 0 in
    let ok = start_acceptable 0 (lone ∷ []) firsts lone_first in
    let given = thief_within thief (omega arith) stolen 0 t (λ u x l m n. few u x l) in
    freshness (λ x. brings x thief) (starts_at 0 (lone ∷ []) (0 ∷ []) costs stolen) ok 0 (omega arith) lone_meets
    0 t given (start_quiet 0 (lone ∷ []) firsts) (omega arith) t h (omega arith)
  where
    lone_first : (i : ℕ) → i < 1 → get_or (0 ∷ []) i 0 < (object (lone ∷ []) i).period
    lone_first zero h = omega arith
    lone_first (suc i) h = absurd (omega arith)
