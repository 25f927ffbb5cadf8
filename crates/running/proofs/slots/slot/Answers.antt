-- `running::slots::slot` meets its contract: one pass goes over the rows, and changes nothing else. Assumes nothing.
use Rattle.std.proofs.Common.{sym, refl, ◌∙◌, rules}
use Rattle.stepping.proofs.Checked.{no_state, run_state, count_fits}
use Rattle.running.proofs.Turns.{passing_none, passing_unmoved, passing_stored, passing_rows}
use Rattle.running.proofs.Stepped.{none_stepped, all_stepped}
use Rattle.running.proofs.slots.slot.Goals as goal

pub returns-in_default : goal.returns-in_default
returns-in_default c =
    rw c.at-refused.ensures (none_stepped c.args.run c.args.stolen (no_state c.args.run (sym c.in_default.is ∙ c.holding.ensures)))

pub slot-init : goal.slot-init
slot-init c =
    let s = run_state c.args.run c.in-Some.holding (sym c.in-Some.is ∙ c.holding.ensures) in
    passing_none (count_fits c.args.run s.0) (search rules)

pub slot-preserved-then-unmoved : goal.slot-preserved-then-unmoved
slot-preserved-then-unmoved c =
    passing_unmoved c.slot.invariant _ c.slot-test.true (sym c.unmoved.ensures ∙ c.if-unmoved.true)

pub slot-preserved : goal.slot-preserved
slot-preserved c =
    passing_stored c.slot.invariant _ c.slot-test.true c.released-due.ensures c.worked-done.ensures c.still_free-free.ensures c.aged.ensures

pub returns : goal.returns
returns c =
    let s = run_state c.args.run c.in-Some.holding (sym c.in-Some.is ∙ c.holding.ensures) in
    rw c.slot.invariant.count (all_stepped c.args.run c.args.stolen c.in-Some.holding _ _ s.0 s.1 refl (passing_rows c.slot.invariant c.slot-test.false))
