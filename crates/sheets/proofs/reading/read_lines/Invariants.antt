-- `sheets::reading::read_lines` meets its contract: after each turn the lines before the rest are read. Assumes nothing.
use Rattle.std.proofs.Common.{length}
use Rattle.sheets.proofs.Walked.{Walked}
use Rattle.sheets.proofs.reading.read_lines.Given as goal

abbrev pub invariant-loop-rest : goal.invariant-loop-rest
invariant-loop-rest l = Walked l.bytes l.table.rows l.count l.rest

abbrev pub decreases-loop-rest : goal.decreases-loop-rest
decreases-loop-rest l = length l.rest
