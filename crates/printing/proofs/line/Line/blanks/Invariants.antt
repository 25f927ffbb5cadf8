-- `printing::line::Line::blanks` meets its contract. Assumes nothing.
use Rattle.std.proofs.Common.{◌≡◌}
use Rattle.printing.specs.Lines.{with_bytes, blanks}
use Rattle.printing.proofs.line.Line.blanks.Given as goal

abbrev pub invariant-loop : goal.invariant-loop
invariant-loop l = l.self ≡ with_bytes l.initial.self (blanks l.counter)
