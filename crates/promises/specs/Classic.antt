-- Words: planned rows that are no worse than others, row by row. Assumes nothing.
use Rattle.std.specs.Prelude.{◌≤◌, ◌≡◌, List, [], ◌∷◌}
use Rattle.rules.specs.declared.PlanRow.{PlanRow}

-- a planned row that is no worse than another: the same cost, a period that is no shorter and a deadline that is no later
pub record NoWorse (m h : PlanRow) : Type 0 where
  pub same_cost : m.cost ≡ h.cost
  pub longer : h.period ≤ m.period
  pub some_period : 1 ≤ h.period
  pub sooner : m.deadline ≤ h.deadline

-- row by row
abbrev pub AllNoWorse : List PlanRow → List PlanRow → Type 0
AllNoWorse [] [] = Unit {0}
AllNoWorse [] (h ∷ hs) = ⊥
AllNoWorse (m ∷ ms) [] = ⊥
AllNoWorse (m ∷ ms) (h ∷ hs) = NoWorse m h × AllNoWorse ms hs
