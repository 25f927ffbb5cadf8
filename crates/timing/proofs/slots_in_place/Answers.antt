-- `timing::slots_in_place` meets its contract: what is left of the slots brings the run to where all of them bring the first. Assumes nothing.
use Rattle.std.proofs.Common.{◌≡◌, sym, ◌∙◌, ℕ, ◌+◌, ◌<◌, ◌≤◌, add-one, List, length, get_or, drop, drop-cons, drop_of_length-le}
use Rattle.rules.specs.declared.Run.{Run}
use Rattle.rules.specs.Run.{is_stolen, stepped_of}
use Rattle.timing.specs.InPlace.{in_place_of}
use Rattle.timing.proofs.slots_in_place.Goals as goal

-- one slot more
after_one : (stolen : List ℕ) (run next : Run) (k : ℕ) → k < length stolen → next ≡ (stepped_of run (is_stolen (get_or stolen k 0))).run → in_place_of next (drop (k + 1) stolen) ≡ in_place_of run (drop k stolen)
unfolding in_place_of
after_one stolen run next k h e = rw (e, add-one, drop-cons stolen k 0 h)

-- no slot left
after_all : (stolen : List ℕ) (run : Run) (k : ℕ) → length stolen ≤ k → in_place_of run (drop k stolen) ≡ run
unfolding in_place_of
after_all stolen run k h = rw (drop_of_length-le stolen {i = k} h)

pub loop-byte-preserved : goal.loop-byte-preserved
loop-byte-preserved c =
    after_one c.args.stolen.now c.loop-byte.run _ c.loop-byte.byte-index c.loop-byte-test.true c.slot_in_place.ensures.run ∙ c.loop-byte.invariant

pub returns : goal.returns
returns c = sym (after_all c.args.stolen.now c.loop-byte.run c.loop-byte.byte-index c.loop-byte-test.false) ∙ c.loop-byte.invariant
