-- `running::outlook::Outlook::age` meets its contract: the rows before `i` are aged. Assumes nothing.
use Rattle.rules.specs.Run.{no_run_row}
use Rattle.running.proofs.Going.{aging_none, aging_same, aging_stored, aged_all, aged_kept}
use Rattle.running.proofs.outlook.Outlook.age.Goals as goal

pub age-init : goal.age-init
age-init c = aging_none c.requires c.looks-looked.ensures

pub age-preserved-then-due_in-ne0 : goal.age-preserved-then-due_in-ne0
age-preserved-then-due_in-ne0 c = aging_same c.age.invariant no_run_row c.age-test.true _ c.nearer-lapse.ensures.0 (rw c.due_in.ensures at c.if-due_in-ne0.true) c.nearer-lapse.ensures.1

pub age-preserved : goal.age-preserved
age-preserved c = aging_stored c.age.invariant _ c.age-test.true _ c.nearer-lapse-in-age.ensures.0 _ _ c.aged-t.ensures c.lapse_of-own.ensures c.nearer-lapse-in-age.ensures.1

pub returns-clause-kept : goal.returns-clause-kept
returns-clause-kept c = aged_kept c.age.invariant c.age-test.false

pub returns-clause-rows : goal.returns-clause-rows
returns-clause-rows c = aged_all c.requires c.looks-looked.ensures c.age.invariant c.age-test.false
