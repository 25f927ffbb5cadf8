-- `printing::line::Line::text` meets its contract. Assumes nothing.
use Rattle.std.proofs.Common.{◌≡◌, take}
use Rattle.printing.specs.Lines.{with_bytes}
use Rattle.printing.proofs.line.Line.text.Given as goal

abbrev pub invariant-loop-byte : goal.invariant-loop-byte
invariant-loop-byte l = l.self ≡ with_bytes l.initial.self (take l.byte-index l.text)
