-- `running::slots::slot` meets its contract: one pass goes over the rows, and changes nothing else. Assumes nothing.
use Rattle.running.proofs.Turns.{Passing}
use Rattle.running.proofs.slots.slot.Given as goal

abbrev pub invariant-slot : goal.invariant-slot
invariant-slot l = Passing l.initial.run l.run l.holding l.initial.free l.free l.i
