-- Words: the grounds on which a start from stored bytes is accepted or refused, and where a record stands in them. Assumes nothing.
use Rattle.std.specs.Prelude.{ℕ, ◌+◌, ◌*◌, ◌≡◌, List}
use Rattle.rules.specs.Answers.{ReadStored, Accepted, Refused}
use Rattle.rules.specs.declared.Refusal.{Refusal}
use Rattle.rules.specs.Refusals.{Told, told}
use Rattle.rules.specs.StoredTable.{record_size, form_of, records_start}
use Rattle.rules.specs.Order.{firsts_in_order}
use Rattle.rules.specs.Deadlines.{plan_of}
use Rattle.promises.specs.StartExactly.{GroundOf}

-- why a start from stored bytes tells what it tells: the refusal of reading first, then as a start of what was read
pub data StoredGround (read : ReadStored) : Told → Type 0 where
  not_read : {r : Refusal} {k : ℕ} → read.verdict ≡ Refused r k → StoredGround read (told (Refused r k))
  as_read : {n : Told} → read.verdict ≡ Accepted → GroundOf (plan_of read.stored.table) (firsts_in_order read.stored) n
      → StoredGround read n

-- where record k stands in bytes
abbrev pub record_at : List ℕ → ℕ → ℕ
record_at s k = records_start s + record_size (form_of s) * k
