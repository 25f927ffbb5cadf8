-- `running::advancing::advance_rows` meets its contract: between slots `Going` holds. Assumes nothing.
use Rattle.running.proofs.SlotBySlot.{Going}
use Rattle.running.proofs.advancing.advance_rows.Given as goal

abbrev pub invariant-slots : goal.invariant-slots
invariant-slots l = Going l.fn.run l.stolen l.ahead l.rows l.lapses l.byte-index
