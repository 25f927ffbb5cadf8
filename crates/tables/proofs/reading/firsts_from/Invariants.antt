-- `tables::reading::firsts_from` meets its contract: after i turns the first i first releases are in. Assumes nothing.
use Rattle.std.proofs.Common.{◌≡◌, ◌≤◌, Some}
use Rattle.rules.specs.StoredTable.{first_at}
use Rattle.tables.proofs.Filling.{filling}
use Rattle.tables.proofs.reading.firsts_from.Given as goal

abbrev pub invariant-loop-i : goal.invariant-loop-i
invariant-loop-i l = (l.i ≤ l.records.count) × (l.first-items ≡ filling (first_at (Some l.records.form)) 0 l.bytes l.records l.i)
