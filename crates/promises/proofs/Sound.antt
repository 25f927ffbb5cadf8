-- Planned numbers as acceptance asks for them, as facts: what the tests of `plan_ok` say, and that planned rows pass them.
-- Assumes nothing.
use Rattle.std.specs.Prelude.{◌+◌, ◌≤◌, ◌≡◌, true, ◌&&◌, List, eqb, leb}
use Rattle.std.proofs.Common.{arith, eq-eqb, le-leb, eqb-true, leb-true}
use Rattle.rules.specs.declared.PlanRow.{PlanRow}
use Rattle.rules.specs.StoredTable.{hold_ok}
use Rattle.rules.specs.RunState.{plan_ok}
use Rattle.rules.proofs.Tests.{both_true}
use Rattle.promises.specs.Tests.{and_parts}
use Rattle.promises.specs.Plans.{PlannedRow}

pub record Sound (p : PlanRow) : Type 0 where
  pub cost_pos : 1 ≤ p.cost
  pub cost_le : p.cost ≤ p.deadline
  pub within : p.deadline ≤ p.period
  pub sums : p.deadline + p.period ≡ p.validity
  pub small : p.validity ≤ 1000000
  pub hold_ok : hold_ok p.cost p.hold ≡ true

pub ok_sound : (p : PlanRow) → plan_ok p ≡ true → Sound p
ok_sound p h =
    let within = leb p.deadline p.period in
    let sums = eqb (p.deadline + p.period) p.validity in
    let small = leb p.validity 1000000 in
    let b = both_true (leb 1 p.cost && leb p.cost p.deadline && within && sums && small) (hold_ok p.cost p.hold) h in
    let q = and_parts (leb 1 p.cost) (leb p.cost p.deadline) within sums small b.0 in
    record {
      cost_pos = leb-true _ _ q.0;
      cost_le = leb-true _ _ q.1;
      within = leb-true _ _ q.2;
      sums = eqb-true _ _ q.3;
      small = leb-true _ _ q.4;
      hold_ok = b.1;
    }

pub sound_ok : (p : PlanRow) → Sound p → plan_ok p ≡ true
sound_ok p k =
    rw (
      le-leb 1 p.cost k.cost_pos,
      le-leb p.cost p.deadline k.cost_le,
      le-leb p.deadline p.period k.within,
      eq-eqb (p.deadline + p.period) p.validity k.sums,
      le-leb p.validity 1000000 k.small,
    ) k.hold_ok

pub planned_sound : {ahead behind : List PlanRow} {p : PlanRow} → PlannedRow ahead behind p → Sound p
planned_sound m = record {
  cost_pos = m.cost_pos;
  cost_le = omega arith;
  within = omega arith;
  sums = omega arith;
  small = m.small;
  hold_ok = m.hold_ok;
}
