-- `tables::writing::put_records` meets its contract: after some turns as many records are put. Assumes nothing.
use Rattle.std.proofs.Common.{◌≡◌, Some, length, take}
use Rattle.std.proofs.lemmas.List.Edits.{sets}
use Rattle.rules.specs.Writing.{records_bytes}
use Rattle.tables.proofs.writing.put_records.Given as goal

abbrev pub invariant-loop-i : goal.invariant-loop-i
invariant-loop-i l = l.buffer ≡ sets l.initial.buffer 0 (records_bytes (Some l.form) (take (length l.yielded) l.rows) (take (length l.yielded) l.firsts))
