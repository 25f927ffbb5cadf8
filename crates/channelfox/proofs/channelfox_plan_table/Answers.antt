-- `channelfox_plan_table` meets its contract. Assumes nothing.
use Rattle.std.proofs.Common.{◌∙◌}
use Rattle.channelfox.proofs.Answered.{plan_same}
use Rattle.channelfox.proofs.channelfox_plan_table.Goals as goal

pub returns : goal.returns
returns c = c.from.ensures ∙ rw c.plan_table.ensures (plan_same c.args.table)
