-- Document 01's answers to a reading: "Reading by id answers none, stale (lapsed), or fresh with its age", or a refusal.
-- Assumes nothing.
use Rattle.std.specs.Prelude.{ℕ}
use Rattle.rules.specs.declared.Refusal.{Refusal}

pub data Reading : Type 0 where
  Never : Reading
  Stale : Reading
  Fresh : ℕ → Reading
  Refused : Refusal → ℕ → Reading
