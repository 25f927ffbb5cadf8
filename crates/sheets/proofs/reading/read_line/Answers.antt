-- `sheets::reading::read_line` meets its contract: the limit of an id is that of two bytes. Assumes nothing.
use Rattle.std.proofs.Common.{◌≤◌, rules}
use Rattle.rules.proofs.Digits.{field_limit}
use Rattle.sheets.specs.declared.reading.TheConstants.{MOST_ID}
use Rattle.sheets.proofs.reading.read_line.Goals as goal

pub overflow_cast-row : goal.overflow_cast-row
overflow_cast-row c =
    let few : c.in_ok-id.id ≤ MOST_ID = field_limit MOST_ID 44 c.args.bytes.now c.in_ok-id.ensures in
    search rules
