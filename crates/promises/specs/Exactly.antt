-- Words of demand 2 on plans: a deadline by the number that balances, none within half the validity, and the first object without one.
-- Assumes nothing.
use Rattle.std.specs.Prelude.{ℕ, suc, ◌*◌, ◌≤◌, ◌<◌, ◌≡◌, List, [], ◌∷◌, ◌++◌, length, drop, get_or}
use Rattle.rules.specs.declared.ObjectRow.{ObjectRow}
use Rattle.rules.specs.declared.PlanRow.{PlanRow}
use Rattle.rules.specs.StoredTable.{no_row}
use Rattle.rules.specs.Deadlines.{own_of, need_of, plan_row}

-- t is the deadline of an object with those planned rows ahead and those objects behind: the smallest whole t, at least 1, that balances,
-- and 2 t is at most the validity
pub record IsDeadline (ahead : List PlanRow) (r : ObjectRow) (behind : List ObjectRow) (t : ℕ) : Type 0 where
  pub one : 1 ≤ t
  pub half : 2 * t ≤ r.validity
  pub balances : t ≡ need_of ahead (own_of r behind) t
  pub smallest : (s : ℕ) → 1 ≤ s → s < t → s ≡ need_of ahead (own_of r behind) s → ⊥

-- no t within half the validity balances
abbrev pub HasNone : List PlanRow → ObjectRow → List ObjectRow → Type 0
HasNone ahead r behind = (t : ℕ) → 1 ≤ t → 2 * t ≤ r.validity → t ≡ need_of ahead (own_of r behind) t → ⊥

-- the first k of the rows, in priority order behind those of `ahead`, are planned as `plans`, each with its deadline and validity minus
-- deadline as its period
pub data PlannedAs : ℕ → List PlanRow → List ObjectRow → List PlanRow → Type 0 where
  done : {ahead : List PlanRow} {rs : List ObjectRow} → PlannedAs 0 ahead rs []
  next : {k : ℕ} {ahead : List PlanRow} {r : ObjectRow} {rs : List ObjectRow} {plans : List PlanRow} (t : ℕ) → IsDeadline ahead r rs t
      → PlannedAs k (ahead ++ (plan_row r t ∷ [])) rs plans → PlannedAs (suc k) ahead (r ∷ rs) (plan_row r t ∷ plans)

-- the first object without a deadline, among rows in priority order behind those of `ahead`, is at the place k: all those before it have
-- theirs, and it has none
pub record FirstWithout (ahead : List PlanRow) (rs : List ObjectRow) (k : ℕ) : Type 0 where
  pub plans : List PlanRow
  pub others_have : PlannedAs k ahead rs plans
  pub inside : k < length rs
  pub it_has_none : HasNone (ahead ++ plans) (get_or rs k no_row) (drop (suc k) rs)
