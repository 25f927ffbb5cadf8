-- Stored bytes worked out: what is read, refused, written and left in a buffer; document 01's byte examples among them.
-- Assumes nothing: the definitions are computed.
use Rattle.std.specs.Prelude.{ℕ, ◌≡◌, refl, List, [], ◌∷◌, ◌++◌, map, replicate, Some}
use Rattle.rules.specs.declared.Form.TheVariants.{One}
use Rattle.rules.specs.declared.ObjectRow.{ObjectRow}
use Rattle.rules.specs.Refusals.{Told, ◌at_place◌, told}
use Rattle.rules.specs.StoredTable.{table_of, read_verdict}
use Rattle.rules.specs.Writing.{table_bytes, form_one, buffer_after}
use Rattle.rules.specs.Numbers.{row}

-- a record of id, hold less one, cost and validity, each below 256; a trailer of distance (below 256) and count (below 256), with the mark 4D 4C
abbrev pub stored : ℕ → ℕ → ℕ → ℕ → List ℕ
stored i s c v = i ∷ 0 ∷ s ∷ 0 ∷ c ∷ 0 ∷ 0 ∷ 0 ∷ v ∷ 0 ∷ 0 ∷ 0 ∷ []

abbrev pub trailer : ℕ → ℕ → List ℕ
trailer d n = d ∷ 0 ∷ 0 ∷ 0 ∷ n ∷ 0 ∷ 77 ∷ 76 ∷ []

-- ── Read ──

pub record StoredCase : Type 0 where
  pub bytes : List ℕ
  pub tells : Told

abbrev pub stored_table : List StoredCase
stored_table =
    -- 7 bytes; 8 zero bytes; count 65; one record and distance 19; distance 20 in 20 bytes; distance 21 in 20 bytes
    record { bytes = replicate 7 0; tells = 1 at_place 0 }
    ∷ record { bytes = replicate 8 0; tells = 3 at_place 0 }
    ∷ record { bytes = trailer 8 65; tells = 4 at_place 0 }
    ∷ record { bytes = stored 1 0 1 4 ++ trailer 19 1; tells = 5 at_place 0 }
    ∷ record { bytes = stored 1 0 1 4 ++ trailer 20 1; tells = 0 at_place 0 }
    ∷ record { bytes = stored 1 0 1 4 ++ trailer 21 1; tells = 15 at_place 0 }
    -- a distance too small for the count and above the number of bytes
    ∷ record { bytes = stored 1 0 1 4 ++ trailer 21 2; tells = 5 at_place 0 }
    -- a gap before the record and one behind it
    ∷ record { bytes = 9 ∷ stored 1 0 1 4 ++ 9 ∷ trailer 21 1; tells = 0 at_place 0 }
    -- a record that breaks 7, 6 and 8, behind a good one; one that breaks 6 and 8; one that breaks 7 ahead of one that breaks 6
    ∷ record { bytes = stored 1 0 1 4 ++ stored 2 1 0 1 ++ trailer 32 2; tells = 7 at_place 1 }
    ∷ record { bytes = stored 1 0 1 4 ++ stored 2 1 1 1 ++ trailer 32 2; tells = 6 at_place 1 }
    ∷ record { bytes = stored 1 0 0 4 ++ stored 2 1 1 4 ++ trailer 32 2; tells = 7 at_place 0 }
    ∷ []

pub stored_right : map (λ (c : StoredCase). told (read_verdict c.bytes)) stored_table ≡ map (λ (c : StoredCase). c.tells) stored_table
stored_right = refl

-- ── Written ──

-- n records in the given order, not in priority order, and the trailer, without gap, the numbers with the low byte first
pub written_right : table_bytes (Some One) (row 2 3 5 ∷ row 1 1 4 ∷ []) (0 ∷ 0 ∷ []) ≡ stored 2 0 3 5 ++ stored 1 0 1 4 ++ trailer 32 2
written_right = refl

pub written_low_first : table_bytes (Some One) (row 258 66051 1000000 ∷ []) (0 ∷ []) ≡ 2 ∷ 1 ∷ 0 ∷ 0 ∷ 3 ∷ 2 ∷ 1 ∷ 0 ∷ 64 ∷ 66 ∷ 15 ∷ 0 ∷ trailer 20 1
written_low_first = refl

-- a buffer of nines after writing: one byte more than needed, one byte less (16), and rows that are refused (7)
abbrev pub nines : ℕ → List ℕ
nines n = replicate n 9

pub buffers_right : map (λ (c : List ObjectRow × ℕ). buffer_after (form_one (table_of c.0)) (nines c.1)) ((row 1 1 4 ∷ [], 21) ∷ (row 1 1 4 ∷ [], 19) ∷ (row 1 0 4 ∷ [], 21) ∷ [])
    ≡ (stored 1 0 1 4 ++ trailer 20 1 ++ nines 1) ∷ nines 19 ∷ nines 21 ∷ []
buffers_right = refl
