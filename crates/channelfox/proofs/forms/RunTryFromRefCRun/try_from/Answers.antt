-- What C hands in as a run: a test of each of its rows, and then each of them. Assumes nothing.
use Rattle.std.proofs.Common.{◌≡◌, ◌∙◌, sym, refl, false, true, rules, tests}
use Rattle.std.proofs.lemmas.Iterator.{YieldsList-from_slice}
use Rattle.std.proofs.lemmas.Iterator.Search.{all_from_yields_List}
use Rattle.channelfox.specs.Forms.{is_form, every_form}
use Rattle.channelfox.proofs.Mapped.{made_next, made_all, each_form}
use Rattle.channelfox.proofs.forms.RunTryFromRefCRun.try_from.Goals as goal

pub returns-then-not-all : goal.returns-then-not-all
returns-then-not-all c =
    let rows = c.args.form.now.rows in
    let all : c.all.result ≡ every_form rows = all_from_yields_List is_form _ _ _ c.all.ensures.ran (YieldsList-from_slice rows cc) (λ x b q k. search (rules, tests)) ∙ each_form rows in
    let e : every_form rows ≡ false = sym all ∙ c.if-not-all.true in
    rw (e, c.at.ensures)

pub loop-at-init : goal.loop-at-init
loop-at-init c = record { long = search rules; room = refl; same = refl }

pub loop-at-preserved : goal.loop-at-preserved
loop-at-preserved c = rw c.from.ensures (made_next _ c.loop-at.invariant c.loop-at-test.true)

pub returns : goal.returns
returns c =
    let rows = c.args.form.now.rows in
    let all : c.all.result ≡ every_form rows = all_from_yields_List is_form _ _ _ c.all.ensures.ran (YieldsList-from_slice rows cc) (λ x b q k. search (rules, tests)) ∙ each_form rows in
    let e : every_form rows ≡ true = sym all ∙ c.if-not-all.false in
    rw (e, made_all c.loop-at.invariant c.loop-at-test.false)
