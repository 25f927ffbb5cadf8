-- Words for what the planner gives: of each row a deadline that balances within half the validity, and a period of validity minus deadline.
-- Assumes nothing.
use Rattle.std.specs.Prelude.{ℕ, suc, ◌-◌, ◌*◌, ◌≤◌, ◌<◌, ◌≡◌, true, List, map, length, take, drop, get_or}
use Rattle.rules.specs.declared.ObjectRow.{ObjectRow}
use Rattle.rules.specs.declared.PlanRow.{PlanRow}
use Rattle.rules.specs.StoredTable.{hold_ok}
use Rattle.rules.specs.Deadlines.{own_of, need_of, no_plan_row}
use Rattle.rules.specs.RunState.{distinct}

-- the object row that a planned row is the plan of
abbrev pub unplanned : PlanRow → ObjectRow
unplanned p = record { id = p.id; cost = p.cost; validity = p.validity; hold = p.hold }

-- a planned row, where `ahead` are the rows ahead of it and `behind` those behind it
pub record PlannedRow (ahead behind : List PlanRow) (p : PlanRow) : Type 0 where
  pub cost_pos : 1 ≤ p.cost
  pub hold_ok : hold_ok p.cost p.hold ≡ true
  pub balances : need_of ahead (own_of (unplanned p) (map unplanned behind)) p.deadline ≡ p.deadline
  pub half : 2 * p.deadline ≤ p.validity
  pub period_is : p.period ≡ p.validity - p.deadline
  pub small : p.validity ≤ 1000000

-- each row of a plan
abbrev pub PlannedRows : List PlanRow → Type 0
PlannedRows plans = (i : ℕ) → i < length plans → PlannedRow (take i plans) (drop (suc i) plans) (get_or plans i no_plan_row)

-- the rows of an accepted plan
pub record PlanRows (plans : List PlanRow) : Type 0 where
  pub count_pos : 1 ≤ length plans
  pub count_le : length plans ≤ 64
  pub ids_differ : distinct (map (λ (p : PlanRow). p.id) plans) ≡ true
  pub rows : PlannedRows plans
