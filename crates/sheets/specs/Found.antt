-- What the private functions of the import say of what they found at the front of bytes. Assumes nothing.
-- The contract of the import itself cites the definitions of the rules.
use Rattle.std.specs.Prelude.{ℕ, ⊤, ◌≡◌, List, Option, Result, Ok, Err}
use Rattle.std.specs.Borrow.{Bor}
use Rattle.std.specs.Option.{MatchOption}
use Rattle.std.proofs.Math.Option.{none, some}
use Rattle.std.proofs.Math.Option as found
use Rattle.rules.specs.declared.Table.{Table}
use Rattle.rules.specs.declared.Refused.{Refused}
use Rattle.rules.specs.Sheet.{number_from, field_end}

-- the number that went on to v, with `rest` behind it, ends its field as the whole number does
abbrev pub WentOn : ℕ → ℕ → List ℕ → ℕ → List ℕ → Type 0
WentOn limit first s v rest = (stop : ℕ) → field_end limit stop (number_from first s).0 (number_from first s).1 ≡ field_end limit stop v rest

-- what stands at the front, and the bytes behind it; or none
abbrev pub Finds : {A : Type 0} → found.Option (A × List ℕ) → Option (A × Bor (List ℕ)) → Type 0
Finds e r = MatchOption r (e ≡ none) (λ p. e ≡ some (p.0, p.1.now))

-- what is answered of rows that were put into a lent table: the table, or the refusal
abbrev pub put_into : Table → Result ⊤ Refused → Result Table Refused
put_into table (Ok u) = Ok table
put_into table (Err refused) = Err refused
