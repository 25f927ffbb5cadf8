-- Worked examples: the rules of Model.antt computed. Assumes nothing.
use Rattle.std.specs.Prelude.{ℕ, zero, suc, ◌≡◌, refl, Bool, false, List, [], ◌∷◌, map, get_or, ltb}
use Rattle.std.proofs.Math.Option.{some}
use Rattle.theory.specs.Model.{Object, State, Course, history, state}
use Rattle.theory.specs.Start.{starts}

-- a course that starts with these objects and first releases; works of 0 are outside 1 to the cost, so they stand for the costs
abbrev pub starts_at : ℕ → List Object → List ℕ → (ℕ → ℕ → ℕ) → (ℕ → Bool) → Course
starts_at from os firsts works stolen = record { from = from; begin = starts from os (λ i. get_or firsts i 0); works = works; stolen = stolen }

abbrev pub costs : ℕ → ℕ → ℕ
costs i t = 0

abbrev pub none_stolen : ℕ → Bool
none_stolen t = false

-- the work left at each place, before each of the first n slots
abbrev up_to : ℕ → (ℕ → List ℕ) → List (List ℕ)
up_to zero f = []
up_to (suc n) f = f 0 ∷ up_to n (λ t. f (suc t))

abbrev lefts : Course → ℕ → List (List ℕ)
lefts c n = up_to n (λ t. map (λ (w : State). w.left) (history c t))

-- ── Holds and actual works ──

-- a short object ahead of a long one with a hold of 3: the deadlines are 1 + 2 and 4 + 1
abbrev pub pair : List Object
pair =
    record { cost = 1; validity = 9; deadline = 3; period = 6; hold = 1 }
    ∷ record { cost = 4; validity = 12; deadline = 5; period = 7; hold = 3 }
    ∷ []

-- the long one is released first: it keeps the slots 0 to 2, though the short one comes at 1, and goes on after it
held : lefts (starts_at 0 pair (1 ∷ 0 ∷ []) costs none_stolen) 6
    ≡ (0 ∷ 0 ∷ []) ∷ (0 ∷ 3 ∷ []) ∷ (1 ∷ 2 ∷ []) ∷ (1 ∷ 1 ∷ []) ∷ (0 ∷ 1 ∷ []) ∷ (0 ∷ 0 ∷ []) ∷ []
unfolding history starts
held = refl

-- given a work of 2, its job ends within the hold, and the hold with it
early : lefts (starts_at 0 pair (1 ∷ 0 ∷ []) (λ i t. 2) none_stolen) 4 ≡ (0 ∷ 0 ∷ []) ∷ (0 ∷ 1 ∷ []) ∷ (1 ∷ 0 ∷ []) ∷ (0 ∷ 0 ∷ []) ∷ []
unfolding history starts
early = refl

-- ── The plain run ──

-- document 002, Figure 2, with first releases 2, 1, 0: slots go to objects 3, 2, 1, 1, 2, 3, and nothing is left over at 6
abbrev pub figure2 : List Object
figure2 =
    record { cost = 2; validity = 8; deadline = 2; period = 6; hold = 1 }
    ∷ record { cost = 2; validity = 10; deadline = 4; period = 6; hold = 1 }
    ∷ record { cost = 2; validity = 12; deadline = 6; period = 6; hold = 1 }
    ∷ []

figure2_run : lefts (starts_at 0 figure2 (2 ∷ 1 ∷ 0 ∷ []) costs none_stolen) 7
    ≡ (0 ∷ 0 ∷ 0 ∷ []) ∷ (0 ∷ 0 ∷ 1 ∷ []) ∷ (0 ∷ 1 ∷ 1 ∷ []) ∷ (1 ∷ 1 ∷ 1 ∷ [])
    ∷ (0 ∷ 1 ∷ 1 ∷ []) ∷ (0 ∷ 0 ∷ 1 ∷ []) ∷ (0 ∷ 0 ∷ 0 ∷ []) ∷ []
unfolding history starts
figure2_run = refl

-- (1,2), first release 0, slots 0 to 2 stolen: three skips, and at 4 the value of 0 is stored and nothing is left over
abbrev one_of_two : Object
one_of_two = record { cost = 1; validity = 2; deadline = 1; period = 1; hold = 1 }

three_skips : state (starts_at 0 (one_of_two ∷ []) (0 ∷ []) costs (λ t. ltb t 3)) 0 4
    ≡ record { planned = one_of_two; next = 4; left = 0; work = 0; sample = 0; value = some 0; skips = 3 }
unfolding history starts
three_skips = refl

-- a state handed in at the instant 2^33, with a job in hand and a value stored that are older: the next slot stores the job's sample
abbrev handed_in : State
handed_in = record { planned = one_of_two; next = 8589934592; left = 1; work = 1; sample = 8589934590; value = some 8589934588; skips = 0 }

older_sample : state (record { from = 8589934592; begin = handed_in ∷ []; works = costs; stolen = none_stolen }) 0 1
    ≡ record { planned = one_of_two; next = 8589934593; left = 0; work = 0; sample = 8589934590; value = some 8589934590; skips = 1 }
unfolding history
older_sample = refl
