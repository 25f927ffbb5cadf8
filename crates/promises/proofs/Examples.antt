-- Demand 3 put to use on two runs of document 01, "Numbers to hold against it".
-- Assumes nothing: the definitions are computed.
use Rattle.std.specs.Prelude.{ℕ, zero, suc, ◌≤◌, ◌<◌, ◌≡◌, refl, Bool, false, [], ◌∷◌, ltb}
use Rattle.std.proofs.Common.{◌∙◌, arith, le-ltb}
use Rattle.rules.specs.declared.Run.{Run}
use Rattle.rules.specs.Readings.{Fresh}
use Rattle.rules.specs.StoredTable.{table_of}
use Rattle.rules.specs.RunState.{in_hold, any}
use Rattle.rules.specs.Run.{released_of, served_of, serve_first, may_work, aged_of, slot_of}
use Rattle.rules.specs.Run.{reading_of}
use Rattle.rules.specs.Numbers.{row}
use Rattle.promises.specs.Runs.{run_after, run_row, NothingLeft, RunObject}
use Rattle.promises.specs.Promises.{Promised, run_of}
use Rattle.promises.proofs.Kept.{kept}
use Rattle.promises.specs.Examples.{figure_2}

-- ── Demand 3 put to use ──

abbrev none_stolen : ℕ → Bool
none_stolen t = false

abbrev figure_2_run : ℕ → Run
figure_2_run = run_of (table_of figure_2) 4294967290 (2 ∷ 1 ∷ 0 ∷ []) none_stolen

-- instant 6 has nothing left over, though no slot was idle
figure_2_rests : NothingLeft (figure_2_run 6)
unfolding run_after released_of served_of serve_first may_work in_hold any aged_of slot_of
figure_2_rests zero h = refl
figure_2_rests (suc zero) h = refl
figure_2_rests (suc (suc zero)) h = refl
figure_2_rests (suc (suc (suc i))) h = absurd (omega arith)

-- so from instant 18 on the third object is fresh for ever, with an age below 12, across the wrap of the clock
pub figure_2_fresh : (t : ℕ) → 18 ≤ t → (age : ℕ) × (reading_of (figure_2_run t) 3 ≡ Fresh age) × (age < 12)
figure_2_fresh t h =
    let third : RunObject = record { plan = record { id = 3; cost = 2; validity = 12; hold = 1; deadline = 6; period = 6 }; first = 0 } in
    let started = kept.of_start (table_of figure_2) 4294967290 (2 ∷ 1 ∷ 0 ∷ []) refl (omega arith) in
    (started.demand_3 none_stolen 6 t figure_2_rests (λ u x y. refl) 2 third refl).fresh t h (omega arith)

-- (1,2), first release 0, slots 0 to 2 stolen: three skips, and instant 4 has nothing left over
abbrev three_stolen : ℕ → Bool
three_stolen t = ltb t 3

abbrev stolen_run : ℕ → Run
stolen_run = run_of (table_of (row 1 1 2 ∷ [])) 4294967294 (0 ∷ []) three_stolen

stolen_rests : NothingLeft (stolen_run 4)
unfolding run_after released_of served_of serve_first may_work in_hold any aged_of slot_of
stolen_rests zero h = refl
stolen_rests (suc i) h = absurd (omega arith)

-- so from instant 4 on all is promised that demand 3 promises
abbrev only_object : RunObject
only_object = record { plan = record { id = 1; cost = 1; validity = 2; hold = 1; deadline = 1; period = 1 }; first = 0 }

pub promised_again : (e : ℕ) → Promised stolen_run 0 only_object 4 e
promised_again e =
    (kept.of_start (table_of (row 1 1 2 ∷ [])) 4294967294 (0 ∷ []) refl (omega arith)).demand_3 three_stolen 4 e stolen_rests
    (λ t l u. le-ltb t 3 (omega arith)) 0 only_object refl

-- no skip is added to the three, and from instant 6 on the object is fresh, across the wrap of the clock
three_skips : (run_row (stolen_run 4) 0).skips ≡ 3
unfolding run_after released_of served_of serve_first may_work in_hold any aged_of slot_of
three_skips = refl

pub no_fourth_skip : (t : ℕ) → 4 ≤ t → (run_row (stolen_run t) 0).skips ≡ 3
no_fourth_skip t h = (promised_again t).no_skip t h (omega arith) ∙ three_skips

pub fresh_again : (t : ℕ) → 6 ≤ t → (age : ℕ) × (reading_of (stolen_run t) 1 ≡ Fresh age) × (age < 2)
fresh_again t h = (promised_again t).fresh t h (omega arith)
