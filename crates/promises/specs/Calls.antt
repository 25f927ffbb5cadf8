-- Calls of `slot` and `advance` one after the other, each on the run that the one before handed back, as firmware calls them.
-- Assumes nothing.
use Rattle.std.specs.Prelude.{ℕ, Bool, false, List, [], ◌∷◌, ◌++◌, map, length, get_or}
use Rattle.rules.specs.declared.Run.{Run}
use Rattle.rules.specs.Answers.{Stepped}
use Rattle.rules.specs.Run.{stepped, stepped_of, is_stolen, advanced_of}

-- a call: one slot, with whether it is stolen, or many, with a byte for each
pub data Call : Type 0 where
  one_slot : Bool → Call
  many_slots : List ℕ → Call

-- what it answers
abbrev pub called_of : Run → Call → Stepped
called_of run (one_slot stolen) = stepped_of run stolen
called_of run (many_slots bytes) = advanced_of run bytes

-- the calls one after the other, from what the one before answered: what the last of them answers
unfoldable pub calls_from : Stepped → List Call → Stepped
calls_from answer [] = answer
calls_from answer (c ∷ cs) = calls_from (called_of answer.run c) cs

abbrev pub calls_of : Run → List Call → Stepped
calls_of run calls = calls_from (stepped run) calls

-- which of their slots are stolen, in turn
unfoldable pub slot_flags : List Call → List Bool
slot_flags [] = []
slot_flags (one_slot stolen ∷ cs) = stolen ∷ slot_flags cs
slot_flags (many_slots bytes ∷ cs) = map is_stolen bytes ++ slot_flags cs

abbrev pub stolen_by : List Call → ℕ → Bool
stolen_by calls t = get_or (slot_flags calls) t false

abbrev pub slots_in : List Call → ℕ
slots_in calls = length (slot_flags calls)
