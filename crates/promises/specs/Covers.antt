-- Demand 2's own word for the deadline, the smallest number of slots that covers the object's own cost, the longest hold behind it and all
-- releases ahead of it. Assumes nothing.
use Rattle.std.specs.Prelude.{ℕ, ◌*◌, ◌≤◌, List}
use Rattle.rules.specs.declared.ObjectRow.{ObjectRow}
use Rattle.rules.specs.declared.PlanRow.{PlanRow}
use Rattle.rules.specs.Deadlines.{own_of, need_of}

-- t slots cover the cost of the object, the longest hold behind it (less 1, the unit that it begins with) and all releases of the objects
-- ahead of it within them
abbrev pub Covers : List PlanRow → ObjectRow → List ObjectRow → ℕ → Type 0
Covers ahead r behind t = need_of ahead (own_of r behind) t ≤ t

-- t is the smallest number of slots, at least 1, that covers, and 2 t is at most the validity
pub record SmallestCover (ahead : List PlanRow) (r : ObjectRow) (behind : List ObjectRow) (t : ℕ) : Type 0 where
  pub one : 1 ≤ t
  pub half : 2 * t ≤ r.validity
  pub covers : Covers ahead r behind t
  pub smallest : (s : ℕ) → 1 ≤ s → Covers ahead r behind s → t ≤ s

-- none within half the validity covers
abbrev pub NoneCovers : List PlanRow → ObjectRow → List ObjectRow → Type 0
NoneCovers ahead r behind = (t : ℕ) → 1 ≤ t → 2 * t ≤ r.validity → Covers ahead r behind t → ⊥
