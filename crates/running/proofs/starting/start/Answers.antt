-- `running::starting::start` meets its contract. Assumes nothing.
use Rattle.std.proofs.Common.{sym, ◌∙◌, rules}
use Rattle.rules.specs.Deadlines.{plan_of}
use Rattle.rules.proofs.Outcomes.{refused}
use Rattle.running.proofs.Firsts.{planned_start}
use Rattle.running.proofs.PlanCount.{planned, planned_count}
use Rattle.running.proofs.starting.start.Goals as goal

pub returns-in_err-plan : goal.returns-in_err-plan
returns-in_err-plan c = rw (refused _ _ _ (sym c.plan_table.ensures ∙ c.in_err-plan.was)) (search rules)

pub start_planned-requires : goal.start_planned-requires
start_planned-requires c =
    let p = planned (plan_of c.args.table) c.in_ok-plan.plan (sym c.plan_table.ensures ∙ c.in_ok-plan.was) in
    rw (c.used.ensures, ← p.1) (planned_count c.args.table)

pub returns : goal.returns
returns c =
    let p = planned (plan_of c.args.table) c.in_ok-plan.plan (sym c.plan_table.ensures ∙ c.in_ok-plan.was) in
    rw (c.start_planned.ensures, c.used.ensures, ← p.1) (planned_start (plan_of c.args.table) c.args.clock c.args.firsts.now p.0)
