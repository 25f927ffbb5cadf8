-- `sheets::reading::go_on` meets its contract: each turn takes one digit more. Assumes nothing.
use Rattle.std.proofs.Common.{◌≡◌, drop}
use Rattle.rules.specs.Sheet.{number_from}
use Rattle.sheets.proofs.reading.go_on.Given as goal

abbrev pub invariant-loop-at : goal.invariant-loop-at
invariant-loop-at l = number_from l.first l.bytes ≡ number_from l.value (drop l.at l.bytes)
