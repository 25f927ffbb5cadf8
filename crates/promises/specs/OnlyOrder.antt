-- Words: the places in use, sorted, each once: shortest validity first, then the larger cost, then the smaller id. Assumes nothing.
use Rattle.std.specs.Prelude.{ℕ, ◌+◌, ◌≤◌, ◌<◌, ◌≡◌, cond, List, [], ◌∷◌, eqb}
use Rattle.rules.specs.declared.ObjectRow.{ObjectRow}
use Rattle.rules.specs.Order.{row_at}
use Rattle.rules.proofs.Lists.{Every}

-- b is not behind a: the opposite of "a goes ahead of b"
pub data Behind (a b : ObjectRow) : Type 0 where
  by_validity : b.validity < a.validity → Behind a b
  by_cost : b.validity ≡ a.validity → a.cost < b.cost → Behind a b
  by_id : b.validity ≡ a.validity → b.cost ≡ a.cost → b.id ≤ a.id → Behind a b

-- each of the places is behind the row
abbrev pub AllBehind : List ObjectRow → ObjectRow → List ℕ → Type 0
AllBehind rows r qs = Every (λ q. Behind (row_at rows q) r) qs

-- no later place goes ahead of an earlier one
abbrev pub Sorted : List ObjectRow → List ℕ → Type 0
Sorted rows [] = Unit {0}
Sorted rows (q ∷ qs) = AllBehind rows (row_at rows q) qs × Sorted rows qs

-- how often k stands in a list
abbrev pub times : ℕ → List ℕ → ℕ
times k [] = 0
times k (x ∷ xs) = cond (eqb x k) 1 0 + times k xs

-- the places below n in order: sorted, and each of them once
pub record Ordered (rows : List ObjectRow) (n : ℕ) (ps : List ℕ) : Type 0 where
  pub sorted : Sorted rows ps
  pub once : (k : ℕ) → k < n → times k ps ≡ 1
  pub no_other : (k : ℕ) → n ≤ k → times k ps ≡ 0
