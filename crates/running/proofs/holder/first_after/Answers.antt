-- `running::holder::first_after` meets its contract. Assumes nothing.
use Rattle.running.proofs.holder.first_after.Goals as goal

pub returns-then-holding-held : goal.returns-then-holding-held
returns-then-holding-held c = simp c.if-holding-held.true

pub returns-else-holding-held : goal.returns-else-holding-held
returns-else-holding-held c = simp c.if-holding-held.false
