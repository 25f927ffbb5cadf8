-- `running::starting::start_planned` meets its contract. Assumes nothing.
use Rattle.running.proofs.Firsts.{starts_none, starts_next, refused_count, refused_first, accepted_start}
use Rattle.running.proofs.starting.start_planned.Goals as goal

pub returns-then-firsts-count : goal.returns-then-firsts-count
returns-then-firsts-count c =
    rw c.at.ensures (refused_count c.args.clock c.args.firsts.now c.args.plans.now c.if-firsts-count.true)

pub loop-i-init : goal.loop-i-init
loop-i-init c = rw c.empty-none.ensures (starts_none c.requires c.if-firsts-count.false)

pub returns-then-planned-first : goal.returns-then-planned-first
returns-then-planned-first c =
    rw c.at-then-planned-first.ensures (refused_first c.args.clock c.args.firsts.now c.args.plans.now c.loop-i.invariant _ c.loop-i-test.true c.if-planned-first.true)

pub loop-i-preserved : goal.loop-i-preserved
loop-i-preserved c = starts_next c.loop-i.invariant _ c.loop-i-test.true _ c.if-planned-first.false c.start_row.ensures

pub returns : goal.returns
returns c =
    accepted_start c.args.clock c.args.firsts.now c.args.plans.now c.loop-i.invariant c.loop-i-test.false
