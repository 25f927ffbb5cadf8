-- `stepping::acceptance::all_none` meets its contract. Assumes nothing.
use Rattle.std.proofs.Common.{rules, tests, ◌∙◌, sym}
use Rattle.std.proofs.lemmas.Iterator.{YieldsList-from_slice}
use Rattle.std.proofs.lemmas.Iterator.Search.{all_from_yields_List}
use Rattle.rules.specs.RunState.{row_none}
use Rattle.stepping.proofs.Scan.{every_is_all}
use Rattle.stepping.proofs.acceptance.all_none.Goals as goal

pub returns : goal.returns
returns c =
    all_from_yields_List row_none _ _ _ c.all.ensures.ran (YieldsList-from_slice c.args.rows.now cc) (λ x b q k. search (rules, tests)) ∙ sym (every_is_all row_none c.args.rows.now)
