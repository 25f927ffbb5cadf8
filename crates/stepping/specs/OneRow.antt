-- What one slot does to one row, as the code does it: the three steps at the row before the next row is looked at. Assumes nothing.
use Rattle.std.specs.Prelude.{◌≡◌, ℕ, Bool, true, cond, not, ◌&&◌, ◌||◌, ◌==◌, ◌≢◌, nat_le, nat_lt}
use Rattle.rules.specs.declared.RunRow.{RunRow}
use Rattle.rules.specs.RunState.{age_of, stored_ok}
use Rattle.rules.specs.Run.{tick, released_of, served_of, may_work, aged_stored, aged_of}

-- step 2 at a row, a row being in its hold or none, and the core being free or not when the row's turn comes
unfoldable pub worked_of : Bool → Bool → RunRow → RunRow
worked_of holding free row = cond (may_work holding row) (cond free (served_of row) row) row

-- the three steps at a row; the third is at the clock that has moved on
unfoldable pub passed_of : ℕ → Bool → Bool → RunRow → RunRow
passed_of clock holding free row = aged_of (tick clock) (worked_of holding free (released_of clock row))

-- whether the core is still free behind the row, once its release is done
unfoldable pub still_free : Bool → Bool → RunRow → Bool
still_free holding free row = free && not (may_work holding row)

-- a row that is not due, with no work, or with work that neither gets the slot nor lapses, and with no stored value that lapses:
-- `proofs/OneRow` shows that the slot leaves such a row and the core as they are
unfoldable pub unmoved : ℕ → Bool → RunRow → Bool
unmoved clock free row =
    not (row.next == clock)
    && (row.left == 0 || not free && nat_lt (age_of (tick clock) row.sample) row.planned.validity)
    && stored_ok (tick clock) row.planned.validity row.stored

-- in the slot at `clock` nothing is released at the row, and nothing lapses at its end
pub record Quiet (clock : ℕ) (row : RunRow) : Type 0 where
  pub due : row.next ≡ clock → ⊥
  pub rests : aged_stored (tick clock) row.planned.validity row.stored ≡ row.stored
  pub hand : (row.left ≢ 0) → cond (nat_le row.planned.validity (age_of (tick clock) row.sample)) true row.lapsed ≡ row.lapsed
