-- `timing::started` meets its contract. Assumes nothing.
use Rattle.std.proofs.Common.{◌≡◌, ℕ, Ok, Err, refl, sym, ◌∙◌, arith}
use Rattle.rules.specs.declared.Run.{Run}
use Rattle.rules.specs.declared.Refused as at_place
use Rattle.rules.specs.Answers.{Verdict, Accepted, Refused, start_outcome}
use Rattle.rules.specs.Refusals.{first_refusal}
use Rattle.rules.specs.Deadlines.{planned_rows, plan_of}
use Rattle.rules.specs.Run.{no_run, started, firsts_verdict, started_run}
use Rattle.timing.proofs.started.Goals as goal

accepted_run : (v : Verdict) (run x : Run) → start_outcome (started v run) ≡ Ok x → x ≡ (started v run).run
accepted_run Accepted run x e = cc
accepted_run (Refused r k) run x e = let z : ◌≡◌ {A = ℕ} 0 1 = cc in absurd (omega arith)

refused_run : (v : Verdict) (run : Run) (x : at_place.Refused) → start_outcome (started v run) ≡ Err x → no_run ≡ (started v run).run
refused_run Accepted run x e = let z : ◌≡◌ {A = ℕ} 0 1 = cc in absurd (omega arith)
refused_run (Refused r k) run x e = refl

pub returns-in-Ok : goal.returns-in-Ok
returns-in-Ok c =
    let plan = plan_of c.args.table in
    let plans = planned_rows plan.plan in
    accepted_run (first_refusal plan.verdict (firsts_verdict plans c.args.firsts.now)) (started_run c.args.clock plans c.args.firsts.now) _ (sym c.start.ensures ∙ c.in-Ok.is)

pub returns-in-Err : goal.returns-in-Err
returns-in-Err c =
    let plan = plan_of c.args.table in
    let plans = planned_rows plan.plan in
    c.empty.ensures ∙ refused_run (first_refusal plan.verdict (firsts_verdict plans c.args.firsts.now)) (started_run c.args.clock plans c.args.firsts.now) _ (sym c.start.ensures ∙ c.in-Err.is)
