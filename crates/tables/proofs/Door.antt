-- The lent list in a table's array, and that the checks on that copy answer as the rules say of the list. Assumes nothing.
use Rattle.std.proofs.Common.{◌≡◌, refl, ap, ℕ, ◌-◌, inl, inr, arith, List, ◌++◌, length, take, drop, min, replicate}
use Rattle.std.proofs.lemmas.Bool.{cases_lt}
use Rattle.std.proofs.lemmas.List.{drop-replicate, take_all, take_at}
use Rattle.rules.specs.declared.ObjectRow.{ObjectRow}
use Rattle.rules.specs.StoredTable.{no_row, padded, table_verdict, answer, door_of}
use Rattle.rules.proofs.Checks.{count_many}
use Rattle.tables.specs.Copied.{copied_of}

-- as many as there is room for, over rows of zeros
pub copied : (ys rs : List ObjectRow) (n : ℕ) (z : ObjectRow) → n ≡ min (length ys) 64 → rs ≡ take n ys → z ≡ no_row → rs ++ drop n (replicate 64 z) ≡ padded (length ys) no_row (take 64 ys)
copied ys rs n z e h q =
    elim (cases_lt 64 (length ys)) [
      | inl l ↦ let f : n ≡ 64 = omega arith in let g : 64 - length ys ≡ 0 = omega arith in rw (h, f, g) refl
      | inr l ↦ let f : n ≡ length ys = omega arith in rw (h, f, q, take_all (length ys) ys (omega arith), take_all 64 ys l) (ap (λ (zs : List ObjectRow). ys ++ zs) (drop-replicate (length ys) 64 no_row))
    ]

pub door_is : (ys : List ObjectRow) → answer (table_verdict (copied_of ys)) (copied_of ys) ≡ door_of ys
door_is ys =
    elim (cases_lt 64 (length ys)) [
      | inl l ↦ rw (count_many (length ys) l) refl
      | inr l ↦ rw (take_all 64 ys l, take_at ys (replicate (64 - length ys) no_row) (length ys) refl) refl
    ]
