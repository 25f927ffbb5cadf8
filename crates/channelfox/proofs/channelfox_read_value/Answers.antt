-- `channelfox_read_value` meets its contract. Assumes nothing.
use Rattle.std.proofs.Common.{◌∙◌}
use Rattle.channelfox.proofs.Answered.{value_same}
use Rattle.channelfox.proofs.channelfox_read_value.Goals as goal

pub returns : goal.returns
returns c = c.from.ensures ∙ rw c.read_value.ensures (value_same c.args.run c.args.id)
