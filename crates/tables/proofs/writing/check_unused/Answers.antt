-- `tables::writing::check_unused` meets its contract. Assumes nothing.
use Rattle.std.proofs.Common.{refl, sym, ◌∙◌}
use Rattle.tables.proofs.Wrote.{unused_told}
use Rattle.tables.proofs.writing.check_unused.Goals as goal

pub returns-in-Some : goal.returns-in-Some
returns-in-Some c = let e = unused_told c.args.firsts.now (sym c.in-Some.is ∙ c.first_used.ensures) in rw (c.in-One.is, e, c.at.ensures) refl

pub returns-in-None : goal.returns-in-None
returns-in-None c = let e = unused_told c.args.firsts.now (sym c.in-None.is ∙ c.first_used.ensures) in rw (c.in-One.is, e) refl
