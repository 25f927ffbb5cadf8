-- Request 5, "The classic plan beside ours": Half-Half, which older boxes run.
-- Assumes nothing.
use Rattle.std.specs.Prelude.{ℕ, ◌/◌, []}
use Rattle.rules.specs.declared.ObjectRow.{ObjectRow}
use Rattle.rules.specs.declared.PlanRow.{PlanRow}
use Rattle.rules.specs.Answers.{Planned}
use Rattle.rules.specs.declared.Table.{Table}
use Rattle.rules.specs.StoredTable.{table_verdict}
use Rattle.rules.specs.Order.{in_order}
use Rattle.rules.specs.Deadlines.{plan_by, on_accepted}

-- "deadline and period both half the validity, rounded down"; "An object fits if the smallest balancing t, worked out with those periods, is
-- at most its half", so the t itself does not matter
abbrev pub half_row : ObjectRow → ℕ → PlanRow
half_row r t = record { id = r.id; cost = r.cost; validity = r.validity; hold = r.hold; deadline = r.validity / 2; period = r.validity / 2 }

-- what the classic plan answers, "in the same object order"; "Refusals: 10 with its place, as for our plan"
abbrev pub classic_of : Table → Planned
classic_of table = on_accepted (table_verdict table) (plan_by half_row [] (in_order table.rows table.count))
