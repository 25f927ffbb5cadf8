-- `rules::check_table` meets its contract: the rows before the place `at` have passed, and none of those looked at before it has its id.
-- Assumes nothing.
use Rattle.std.proofs.Common.{◌≡◌, None, false, take}
use Rattle.rules.specs.StoredTable.{rows_in, has_id}
use Rattle.rules.proofs.Checks.{Passed}
use Rattle.rules.proofs.check_table.Given as goal

abbrev pub invariant-loop-before : goal.invariant-loop-before
invariant-loop-before l = record { new : has_id l.row.id (take l.before-index l.before-items) ≡ false; none_yet : l.repeated ≡ None }

abbrev pub invariant-records : goal.invariant-records
invariant-records l = record { passed : Passed l.rows l.at; used : l.rows ≡ rows_in l.fn.table; none_yet : l.repeated ≡ None }
