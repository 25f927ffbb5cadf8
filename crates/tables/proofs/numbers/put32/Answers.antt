-- `tables::numbers::put32` meets its contract. Assumes nothing.
use Rattle.std.proofs.Common.{◌∙◌, ◌+◌, ◌-◌, arith}
use Rattle.rules.specs.Writing.{bytes32}
use Rattle.tables.proofs.Bytes.{put_mid-sets, four_bytes}
use Rattle.tables.proofs.numbers.put32.Goals as goal

pub returns : goal.returns
returns c =
    let a = c.args in
    put_mid-sets a.at (a.at + 4 - a.at) a.buffer.now c.copy_from_slice.new.self (bytes32 a.x) (c.copy_from_slice.ensures.after ∙ (c.to_le_bytes.ensures ∙ four_bytes a.x (omega arith))) (omega arith) (omega arith)
