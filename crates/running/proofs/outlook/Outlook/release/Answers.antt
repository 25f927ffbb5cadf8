-- `running::outlook::Outlook::release` meets its contract: the rows before `i` are released. Assumes nothing.
use Rattle.running.proofs.Going.{releasing_none, releasing_same, releasing_stored, released_all, released_undue}
use Rattle.running.proofs.outlook.Outlook.release.Goals as goal

pub release-init : goal.release-init
release-init c = releasing_none c.requires c.looks-releases.ensures

pub release-preserved-then-row-clock : goal.release-preserved-then-row-clock
release-preserved-then-row-clock c = releasing_same c.release.invariant _ c.release-test.true _ c.nearer-due.ensures.0 c.if-row-clock.true c.nearer-due.ensures.1

pub release-preserved : goal.release-preserved
release-preserved c = releasing_stored c.release.invariant _ c.release-test.true _ c.nearer-due-in-release.ensures.0 _ _ _ _ c.released-r.ensures c.nearer-due-in-release.ensures.1 c.lapse_of-own.ensures c.nearer-lapse.ensures.0 c.nearer-lapse.ensures.1 c.first_now-first.ensures

pub returns-clause-kept : goal.returns-clause-kept
returns-clause-kept c = record { kept = c.release.invariant.kept; undue = released_undue c.release.invariant c.release-test.false }

pub returns-clause-rows : goal.returns-clause-rows
returns-clause-rows c = released_all c.requires c.looks-releases.ensures c.release.invariant c.release-test.false
