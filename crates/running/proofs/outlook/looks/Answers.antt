-- `running::outlook::looks` meets its contract. Assumes nothing.
use Rattle.std.proofs.Common.{eq-eqb, ne_eqb}
use Rattle.running.proofs.outlook.looks.Goals as goal

pub returns-then-due_in-eq0 : goal.returns-then-due_in-eq0
returns-then-due_in-eq0 c = simp (eq-eqb _ _ (rw c.due_in.ensures at c.if-due_in-eq0.true))

pub returns-else-due_in-eq0 : goal.returns-else-due_in-eq0
returns-else-due_in-eq0 c = simp (ne_eqb _ _ (rw c.due_in.ensures at c.if-due_in-eq0.false))
