-- `running::holder::first_now` meets its contract. Assumes nothing.
use Rattle.running.proofs.holder.first_now.Goals as goal

pub returns-then-holding-first : goal.returns-then-holding-first
returns-then-holding-first c = simp c.if-holding-first.true

pub returns-else-holding-first : goal.returns-else-holding-first
returns-else-holding-first c = simp c.if-holding-first.false
