-- `tables::read_rows` meets its contract. Assumes nothing.
use Rattle.std.proofs.Common.{◌∙◌, ap}
use Rattle.rules.specs.Answers.{read_outcome}
use Rattle.tables.proofs.Door.{door_is}
use Rattle.tables.proofs.read_rows.Goals as goal

pub returns : goal.returns
returns c = rw c.copy_rows.ensures at c.check_answer.ensures ∙ ap read_outcome (door_is c.args.rows.now)
