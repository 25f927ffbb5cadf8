-- Words of demand 2 on the plan of a table: its rows and places in priority order, and what each is planned as. Assumes nothing.
use Rattle.std.specs.Prelude.{ℕ, ◌<◌, ◌≡◌, List, take}
use Rattle.rules.specs.declared.ObjectRow.{ObjectRow}
use Rattle.rules.specs.declared.PlanRow.{PlanRow}
use Rattle.rules.specs.declared.Table.{Table}
use Rattle.rules.specs.Order.{row_at, order_of, in_order}
use Rattle.rules.specs.Deadlines.{plan_row, plan_of, planned_rows}
use Rattle.promises.specs.Covers.{SmallestCover}

-- the rows of a table in priority order, and as they are planned
abbrev pub ordered : Table → List ObjectRow
ordered table = in_order table.rows table.count

abbrev pub plans_in : Table → List PlanRow
plans_in table = planned_rows (plan_of table).plan

-- the places in use in priority order, and that the rows there have different ids
abbrev pub places_in : Table → List ℕ
places_in table = take table.count (order_of table.rows table.count)

abbrev pub IdsDiffer : Table → Type 0
IdsDiffer table = (p q : ℕ) → p < table.count → q < table.count → (row_at table.rows p).id ≡ (row_at table.rows q).id → p ≡ q

-- the object row r is planned as p between the planned rows `ahead` and the object rows `behind`: "the period is validity minus deadline"
pub record PlannedBetween (ahead : List PlanRow) (r : ObjectRow) (behind : List ObjectRow) (p : PlanRow) : Type 0 where
  pub deadline : SmallestCover ahead r behind p.deadline
  pub others : p ≡ plan_row r p.deadline
