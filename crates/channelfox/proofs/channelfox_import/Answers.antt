-- `channelfox_import` meets its contract: what a refusal hands back is always the same. Assumes nothing.
use Rattle.std.proofs.Common.{sym, ap, ◌∙◌}
use Rattle.channelfox.specs.Answered.{read_answered}
use Rattle.channelfox.proofs.Answered.{import_same}
use Rattle.channelfox.proofs.channelfox_import.Goals as goal

pub returns-in-Err : goal.returns-in-Err
returns-in-Err c =
    let told = sym c.in-Err.is ∙ c.import.ensures in
    rw (c.from.ensures, c.empty.ensures) (ap read_answered told ∙ import_same c.args.bytes.now)
