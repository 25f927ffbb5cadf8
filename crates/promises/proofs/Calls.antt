-- Calls of `slot` and `advance` one after the other, each on the run that the one before handed back, as firmware calls them: the run after
-- so many slots, or 13 and the run as it came in. Assumes of an acceptable run that its fields fit their words.
use Rattle.std.specs.Prelude.{ℕ, zero, suc, ◌≡◌, refl, Bool, true, false, List, [], ◌∷◌, ◌++◌, map, length, get_or}
use Rattle.std.proofs.Common.{ap, ◌∙◌}
use Rattle.rules.specs.declared.Run.{Run}
use Rattle.rules.specs.RunState.{acceptable}
use Rattle.rules.specs.Run.{slot_of, not_run_state, stepped, stepped_of, is_stolen, slots_of, advanced_of}
use Rattle.promises.specs.Runs.{run_after, Fits}
use Rattle.promises.proofs.Decode.{slot_keeps}
use Rattle.promises.specs.Calls.{Call, calls_from, calls_of, slot_flags, stolen_by, slots_in}
use Rattle.promises.specs.Calls.Call.{one_slot, many_slots}

-- ── Slots one after the other ──

-- the first slot apart
after_first : (run : Run) (stolen : ℕ → Bool) (t : ℕ)
    → run_after (slot_of run (stolen 0)) (λ u. stolen (suc u)) t ≡ run_after run stolen (suc t)
unfolding run_after
after_first run stolen zero = refl
after_first run stolen (suc t) = ap (λ r. slot_of r (stolen (suc t))) (after_first run stolen t)

unfoldable flagged : Run → List Bool → Run
flagged run [] = run
flagged run (f ∷ fs) = flagged (slot_of run f) fs

flagged_after : (run : Run) (fs : List Bool) → flagged run fs ≡ run_after run (λ t. get_or fs t false) (length fs)
unfolding flagged run_after
flagged_after run [] = refl
flagged_after run (f ∷ fs) = flagged_after (slot_of run f) fs ∙ after_first run (λ t. get_or (f ∷ fs) t false) (length fs)

many_flagged : (run : Run) (bytes : List ℕ) (fs : List Bool) → flagged run (map is_stolen bytes ++ fs) ≡ flagged (slots_of run bytes) fs
unfolding flagged slots_of
many_flagged run [] fs = refl
many_flagged run (s ∷ ss) fs = many_flagged (slot_of run (is_stolen s)) ss fs

-- an acceptable run whose fields fit their words
abbrev Good : Run → Type 0
Good run = Fits run × (acceptable run ≡ true)

slot_good : (run : Run) (stolen : Bool) → Good run → Good (slot_of run stolen)
slot_good run stolen g = slot_keeps run g.0 g.1 stolen

slots_good : (run : Run) (bytes : List ℕ) → Good run → Good (slots_of run bytes)
unfolding slots_of
slots_good run [] g = g
slots_good run (s ∷ ss) g = slots_good (slot_of run (is_stolen s)) ss (slot_good run (is_stolen s) g)

calls_flagged : (run : Run) (calls : List Call) → Good run → calls_of run calls ≡ stepped (flagged run (slot_flags calls))
unfolding calls_from slot_flags flagged stepped_of advanced_of
calls_flagged run [] g = refl
calls_flagged run (one_slot stolen ∷ cs) g = rw g.1 (calls_flagged (slot_of run stolen) cs (slot_good run stolen g))
calls_flagged run (many_slots bytes ∷ cs) g =
    rw (g.1, many_flagged run bytes (slot_flags cs)) (calls_flagged (slots_of run bytes) cs (slots_good run bytes g))

-- ── The promise ──

-- no call is refused, and the last answers the run after the slots of them all
pub calls_are_slots : (run : Run) → Fits run → acceptable run ≡ true → (calls : List Call)
    → calls_of run calls ≡ stepped (run_after run (stolen_by calls) (slots_in calls))
calls_are_slots run w ok calls = calls_flagged run calls (w, ok) ∙ ap stepped (flagged_after run (slot_flags calls))

-- from a state that is not acceptable each call is refused with 13 and leaves the run as it came in
refused_stays : (run : Run) → acceptable run ≡ false → (calls : List Call) → calls_from (not_run_state run) calls ≡ not_run_state run
unfolding calls_from stepped_of advanced_of
refused_stays run bad [] = refl
refused_stays run bad (one_slot stolen ∷ cs) = rw bad (refused_stays run bad cs)
refused_stays run bad (many_slots bytes ∷ cs) = rw bad (refused_stays run bad cs)

pub calls_refused : (run : Run) → acceptable run ≡ false → (c : Call) (calls : List Call) → calls_of run (c ∷ calls) ≡ not_run_state run
unfolding calls_from stepped_of advanced_of
calls_refused run bad (one_slot stolen) cs = rw bad (refused_stays run bad cs)
calls_refused run bad (many_slots bytes) cs = rw bad (refused_stays run bad cs)

-- so one call of `advance` is the calls of `slot` one after the other, refused or not
abbrev one_by_one : List ℕ → List Call
one_by_one bytes = map (λ (s : ℕ). one_slot (is_stolen s)) bytes

same_flags : (bytes : List ℕ) → slot_flags (one_by_one bytes) ≡ slot_flags (many_slots bytes ∷ [])
unfolding slot_flags
same_flags [] = refl
same_flags (s ∷ ss) = ap {B = List Bool} (λ l. is_stolen s ∷ l) (same_flags ss)

pub advance_is_slots : (run : Run) → Fits run → (s : ℕ) (ss : List ℕ) → advanced_of run (s ∷ ss) ≡ calls_of run (one_by_one (s ∷ ss))
unfolding calls_from
advance_is_slots run w s ss = by_state (acceptable run) refl
  where
    by_state : (b : Bool) → acceptable run ≡ b → calls_of run (many_slots (s ∷ ss) ∷ []) ≡ calls_of run (one_by_one (s ∷ ss))
    by_state true ok =
        rw (calls_flagged run (many_slots (s ∷ ss) ∷ []) (w, ok), calls_flagged run (one_by_one (s ∷ ss)) (w, ok), same_flags (s ∷ ss))
    by_state false bad = rw (calls_refused run bad (many_slots (s ∷ ss)) [], calls_refused run bad (one_slot (is_stolen s)) (one_by_one ss))
