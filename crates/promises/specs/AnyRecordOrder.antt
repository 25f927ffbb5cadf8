-- Words: records in another order, different ids, and a table with all its 64 rows. Assumes nothing.
use Rattle.std.specs.Prelude.{◌≡◌, List, [], ◌∷◌, length}
use Rattle.rules.specs.declared.ObjectRow.{ObjectRow}
use Rattle.rules.specs.declared.Table.{Table}
use Rattle.rules.proofs.Lists.{Pairwise}

pub data Perm : List ObjectRow → List ObjectRow → Type 0 where
  none : Perm [] []
  skip : (x : ObjectRow) {xs ys : List ObjectRow} → Perm xs ys → Perm (x ∷ xs) (x ∷ ys)
  swap : (x y : ObjectRow) (xs : List ObjectRow) → Perm (x ∷ y ∷ xs) (y ∷ x ∷ xs)
  then : {xs ys zs : List ObjectRow} → Perm xs ys → Perm ys zs → Perm xs zs

-- the ids differ
abbrev pub Distinct : List ObjectRow → Type 0
Distinct rs = Pairwise (λ x y. x.id ≡ y.id → ⊥) rs

-- a table's array has 64 places, by its type
abbrev pub Sized : Table → Type 0
Sized table = length table.rows ≡ 64
