-- `channelfox_plan_classic` meets its contract. Assumes nothing.
use Rattle.std.proofs.Common.{◌∙◌}
use Rattle.channelfox.proofs.Answered.{classic_same}
use Rattle.channelfox.proofs.channelfox_plan_classic.Goals as goal

pub returns : goal.returns
returns c = c.from.ensures ∙ rw c.plan_classic.ensures (classic_same c.args.table)
