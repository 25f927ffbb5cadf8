-- What serves the planner's code alone: which of two plans is made of what a search finds, the waits for a job behind, and what a search knows of
-- planned rows. Assumes nothing.
use Rattle.std.specs.Prelude.{ℕ, ◌+◌, ◌<◌, ◌≡◌, List, [], ◌∷◌, cond, ltb, length, drop, get_or, min}
use Rattle.planning.specs.declared.Method.{Method}
use Rattle.planning.specs.declared.Method.TheVariants.{MoreLess, HalfHalf}
use Rattle.planning.specs.declared.search.Ahead.{Ahead}
use Rattle.rules.specs.declared.ObjectRow.{ObjectRow}
use Rattle.rules.specs.declared.PlanRow.{PlanRow}
use Rattle.rules.specs.Deadlines.{plan_row, hold_behind}
use Rattle.rules.specs.HalfHalf.{half_row}
use Rattle.planning.specs.Paces.{pace_of}

-- the planned row of an object whose smallest balancing t is known: of our plan, More-Less, or of the classic plan, Half-Half
abbrev pub make_row : Method → ObjectRow → ℕ → PlanRow
make_row MoreLess = plan_row
make_row HalfHalf = half_row

-- one job of a planned row; a period of 0 brings none
abbrev pub job_of : PlanRow → ℕ
job_of r = cond (ltb r.period 1) 0 r.cost

-- what a planned row says of itself
abbrev pub ahead_of : PlanRow → Ahead
ahead_of r = record { pace = pace_of r.period; cost = job_of r; calm = r.period }

-- the least of a period and those of the rows behind it
abbrev pub least : ℕ → List PlanRow → ℕ
least p [] = p
least p (r ∷ rs) = least (min p r.period) rs

-- what is known of planned rows: each is calm for the least period from it on
abbrev pub known_of : List PlanRow → List Ahead
known_of [] = []
known_of (r ∷ rs) = record { pace = pace_of r.period; cost = job_of r; calm = least r.period rs } ∷ known_of rs

-- for each row in priority order, how long a job behind it can keep the core
abbrev pub WaitsOf : List ObjectRow → List ℕ → Type 0
WaitsOf rows waits = (k : ℕ) → k < length rows → get_or waits k 0 ≡ hold_behind (drop (k + 1) rows)
