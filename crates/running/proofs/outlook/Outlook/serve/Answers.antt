-- `running::outlook::Outlook::serve` meets its contract: a row before `seek` is still to get the slot. Assumes nothing.
use Rattle.std.proofs.Common.{◌∙◌, arith, rules}
use Rattle.running.proofs.Going.{serving_none, serving_in, serving_idle, serving_less, serving_used, serving_last, served_all}
use Rattle.running.proofs.outlook.Outlook.serve.Goals as goal
use Rattle.running.proofs.outlook.Outlook.serve.Goals.{then-stolen, else-stolen}

pub serve-init : goal.serve-init
serve-init c =
    serving_none c.requires (elim c.if-stolen.branch [ then-stolen u ↦ omega arith | else-stolen u ↦ omega arith ])

pub serve-preserved-then-row-eq0 : goal.serve-preserved-then-row-eq0
serve-preserved-then-row-eq0 c = serving_idle c.serve.invariant _ c.serve-test.true c.if-row-eq0.true

pub serve-preserved-then-row : goal.serve-preserved-then-row
serve-preserved-then-row c = serving_less c.serve.invariant _ c.serve-test.true c.if-row.true

pub offset_bounds-rows-first-in-serve : goal.offset_bounds-rows-first-in-serve
offset_bounds-rows-first-in-serve c = search (rules, serving_in c.serve.invariant c.serve-test.true)

pub bounds-rows-first-in-serve : goal.bounds-rows-first-in-serve
bounds-rows-first-in-serve c = search (rules, serving_in c.serve.invariant c.serve-test.true)

pub offset_bounds-lapses-first : goal.offset_bounds-lapses-first
offset_bounds-lapses-first c = search (rules, serving_in c.serve.invariant c.serve-test.true)

pub bounds-lapses-first : goal.bounds-lapses-first
bounds-lapses-first c = search (rules, serving_in c.serve.invariant c.serve-test.true)

pub serve-smaller-then-holding-row : goal.serve-smaller-then-holding-row
serve-smaller-then-holding-row c = omega (arith, c.serve-test.true)

pub serve-preserved-then-holding-row : goal.serve-preserved-then-holding-row
serve-preserved-then-holding-row c = serving_used c.serve.invariant _ c.serve-test.true _ _ _ _ _ c.if-row-eq0.false c.served-s.ensures c.lapse_of-own.ensures c.nearer-lapse.ensures.0 c.nearer-lapse.ensures.1 c.in_hold-held.ensures c.first_after-first.ensures

pub serve-smaller : goal.serve-smaller
serve-smaller c = omega (arith, c.serve-test.true)

pub serve-preserved : goal.serve-preserved
serve-preserved c = serving_last c.serve.invariant _ c.serve-test.true _ _ _ c.if-row-eq0.false c.served-s.ensures c.lapse_of-own.ensures c.nearer-lapse.ensures.0 c.nearer-lapse.ensures.1 c.if-holding-row.false

pub returns-clause-kept : goal.returns-clause-kept
returns-clause-kept c = record { kept = c.serve.invariant.kept; undue = c.serve.invariant.undue }

pub returns-clause-rows : goal.returns-clause-rows
returns-clause-rows c =
    served_all c.args.stolen c.requires c.serve.invariant (elim c.if-stolen.branch [ then-stolen u ↦ u.seek-is ∙ simp u.if-stolen.true | else-stolen u ↦ u.seek-is ∙ simp u.if-stolen.false ]) c.serve-test.false
