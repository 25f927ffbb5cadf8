-- `channelfox_plan_stored` meets its contract. Assumes nothing.
use Rattle.std.proofs.Common.{◌∙◌}
use Rattle.rules.specs.StoredTable.{read_of}
use Rattle.channelfox.proofs.Answered.{planned_stored_same}
use Rattle.channelfox.proofs.channelfox_plan_stored.Goals as goal

pub returns : goal.returns
returns c = c.from.ensures ∙ rw c.plan_stored.ensures (planned_stored_same (read_of c.args.bytes.now))
