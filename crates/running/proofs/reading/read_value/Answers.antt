-- `running::reading::read_value` meets its contract. Assumes nothing.
use Rattle.std.proofs.Common.{sym, ◌∙◌, rules, tests}
use Rattle.std.proofs.lemmas.Iterator.{YieldsList-from_slice}
use Rattle.std.proofs.lemmas.Iterator.Search.{find_from_yields_List}
use Rattle.running.proofs.Found.{asked, found_here, found_nowhere, refused_reading}
use Rattle.running.proofs.reading.read_value.Goals as goal

pub returns-then-not-is_acceptable : goal.returns-then-not-is_acceptable
returns-then-not-is_acceptable c =
    rw c.at.ensures (refused_reading c.args.run c.args.id (sym c.is_acceptable.ensures ∙ c.if-not-is_acceptable.true))

pub returns-in-Some : goal.returns-in-Some
returns-in-Some c =
    let found = find_from_yields_List (asked c.args.id) _ _ c.find.result c.find.ensures.ran (YieldsList-from_slice c.used.result.now cc) (λ x b q k. search (rules, tests)) in
    rw c.value_at.ensures (found_here c.args.run c.args.id (sym c.is_acceptable.ensures ∙ c.if-not-is_acceptable.false) c.in-Some.row.now (rw (c.in-Some.is, c.used.ensures) at found))

pub returns-in-None : goal.returns-in-None
returns-in-None c =
    let found = find_from_yields_List (asked c.args.id) _ _ c.find.result c.find.ensures.ran (YieldsList-from_slice c.used.result.now cc) (λ x b q k. search (rules, tests)) in
    rw c.at-in-None.ensures (found_nowhere c.args.run c.args.id (sym c.is_acceptable.ensures ∙ c.if-not-is_acceptable.false) (rw (c.in-None.is, c.used.ensures) at found))
