-- `timing::slots_in_place` meets its contract: what is left of the slots brings the run to where all of them bring the first. Assumes nothing.
use Rattle.std.proofs.Common.{◌≡◌, drop}
use Rattle.timing.specs.InPlace.{in_place_of}
use Rattle.timing.proofs.slots_in_place.Given as goal

abbrev pub invariant-loop-byte : goal.invariant-loop-byte
invariant-loop-byte l = in_place_of l.run (drop l.byte-index l.stolen) ≡ in_place_of l.fn.start l.stolen
