-- Request 7 worked out: bytes of form two that are read, refused and written, conversions both ways, and a start with stored first releases.
-- Assumes nothing: the definitions are computed.
use Rattle.std.specs.Prelude.{ℕ, ◌≡◌, refl, true, false, List, [], ◌∷◌, ◌++◌, map, take, replicate, Option, Some, None}
use Rattle.rules.specs.declared.Form.{Form}
use Rattle.rules.specs.declared.Form.TheVariants.{One, Two}
use Rattle.rules.specs.declared.RunRow.{RunRow}
use Rattle.rules.specs.Refusals.{Told, ◌at_place◌, told}
use Rattle.rules.specs.StoredTable.{read_of, chosen_part}
use Rattle.rules.specs.Writing.{table_bytes}
use Rattle.rules.specs.Converting.{convert_verdict, converted_after}
use Rattle.rules.specs.RunState.{used_rows}
use Rattle.rules.specs.Run.{start_stored_of}
use Rattle.rules.specs.Numbers.{row}
use Rattle.rules.specs.WorkedBytes.{stored, trailer, nines}

-- a record of form two: id, cost, validity and first release, each below 256, with a hold of 1; a trailer with the mark 4D 32
abbrev pub stored2 : ℕ → ℕ → ℕ → ℕ → List ℕ
stored2 i c v x = stored i 0 c v ++ x ∷ 0 ∷ 0 ∷ 0 ∷ []

abbrev pub trailer2 : ℕ → ℕ → List ℕ
trailer2 d n = d ∷ 0 ∷ 0 ∷ 0 ∷ n ∷ 0 ∷ 77 ∷ 50 ∷ []

-- ── Read ──

-- what is looked at of an answer: the refusal, the form, and the first two first releases
abbrev pub found : List ℕ → Told × Option Form × List ℕ
found s = let r = read_of s in (told r.verdict, r.stored.form, take 2 r.stored.firsts)

pub read_right : map found (
    -- one record of form two; two of them in a table with a gap before and behind; one of form one
    (stored2 1 1 4 3 ++ trailer2 24 1)
    ∷ (9 ∷ stored2 1 1 4 3 ++ stored2 2 1 9 7 ++ 9 ∷ trailer2 41 2)
    ∷ (stored 1 0 1 4 ++ trailer 20 1)
    -- a distance of one less, one above the bytes; a record of form one under the mark of form two; neither mark
    ∷ (stored2 1 1 4 3 ++ trailer2 23 1)
    ∷ (stored2 1 1 4 3 ++ trailer2 25 1)
    ∷ (stored 1 0 1 4 ++ trailer2 20 1)
    ∷ (stored 1 0 1 4 ++ 20 ∷ 0 ∷ 0 ∷ 0 ∷ 1 ∷ 0 ∷ 77 ∷ 51 ∷ [])
    -- a bad record tells no first release
    ∷ (stored2 1 1 4 3 ++ stored2 2 0 9 7 ++ trailer2 40 2)
    ∷ [])
    ≡ (0 at_place 0, Some Two, 3 ∷ 0 ∷ [])
    ∷ (0 at_place 0, Some Two, 3 ∷ 7 ∷ [])
    ∷ (0 at_place 0, Some One, 0 ∷ 0 ∷ [])
    ∷ (5 at_place 0, None, 0 ∷ 0 ∷ [])
    ∷ (15 at_place 0, None, 0 ∷ 0 ∷ [])
    ∷ (5 at_place 0, None, 0 ∷ 0 ∷ [])
    ∷ (3 at_place 0, None, 0 ∷ 0 ∷ [])
    ∷ (7 at_place 1, None, 0 ∷ 0 ∷ [])
    ∷ []
read_right = refl

-- the choice tells the form
pub chosen_right : map (λ (c : List ℕ × List ℕ). chosen_part c.0 c.1)
    ((stored2 1 1 4 3 ++ trailer2 24 1, []) ∷ ([], 9 ∷ stored 1 0 1 4 ++ trailer 20 1) ∷ ([], []) ∷ [])
    ≡ record { site = true; form = Some Two; start = 0; size = 16 }
    ∷ record { site = false; form = Some One; start = 1; size = 12 }
    ∷ record { site = false; form = None; start = 0; size = 0 }
    ∷ []
chosen_right = refl

-- ── Written and converted ──

pub written_right : table_bytes (Some Two) (row 2 3 5 ∷ row 1 1 4 ∷ []) (7 ∷ 0 ∷ []) ≡ stored2 2 3 5 7 ++ stored2 1 1 4 0 ++ trailer2 40 2
written_right = refl

-- a buffer of nines after a conversion: to form two, its gap left out; back; back with a first release of 3 (18); in a buffer too small (16)
pub converted_right : map (λ (c : Option Form × List ℕ × ℕ). converted_after c.0 c.1 (nines c.2))
    ((Some One, 9 ∷ stored 1 0 1 4 ++ trailer 20 1, 25)
    ∷ (Some Two, stored2 1 1 4 0 ++ trailer2 24 1, 21)
    ∷ (Some Two, stored2 1 1 4 3 ++ trailer2 24 1, 21)
    ∷ (Some One, stored 1 0 1 4 ++ trailer 20 1, 23)
    ∷ [])
    ≡ (stored2 1 1 4 0 ++ trailer2 24 1 ++ nines 1) ∷ (stored 1 0 1 4 ++ trailer 20 1 ++ nines 1) ∷ nines 21 ∷ nines 23 ∷ []
converted_right = refl

pub refused_right : map (λ (c : Option Form × List ℕ × ℕ). told (convert_verdict c.0 c.1 c.2))
    -- too short, and too long, before 3; form two where form one is converted, before 4; a bad count and a bad record as in reading
    ((Some One, replicate 7 0, 99)
    ∷ (Some One, replicate 4097 0, 99)
    ∷ (Some One, trailer2 8 0, 99)
    ∷ (Some Two, trailer 8 0, 99)
    ∷ (Some One, trailer 8 0, 99)
    ∷ (Some Two, stored2 1 0 4 3 ++ trailer2 24 1, 0)
    -- the second first release is used, before 16; then 16
    ∷ (Some Two, stored2 1 1 4 0 ++ stored2 2 1 9 1 ++ trailer2 40 2, 0)
    ∷ (Some Two, stored2 1 1 4 0 ++ trailer2 24 1, 19)
    ∷ (Some Two, stored2 1 1 4 0 ++ trailer2 24 1, 20)
    ∷ (Some One, stored 1 0 1 4 ++ trailer 20 1, 23)
    ∷ [])
    ≡ (1 at_place 0) ∷ (2 at_place 0) ∷ (3 at_place 0) ∷ (3 at_place 0) ∷ (4 at_place 0) ∷ (7 at_place 0) ∷ (18 at_place 1) ∷ (16 at_place 0) ∷ (0 at_place 0) ∷ (16 at_place 0) ∷ []
refused_right = refl

-- ── Started ──

-- what is looked at of a start: the refusal, and id and next release of each object
abbrev pub started : List ℕ → Told × List (ℕ × ℕ)
started s = let r = start_stored_of s 100 in (told r.verdict, map {B = ℕ × ℕ} (λ (w : RunRow). (w.planned.id, w.next)) (used_rows r.run))

-- the record with the longer validity comes first, and its first release goes with it to the second place; a first release at its object's period is
-- refused with the place in priority order; form one starts with 0; a bad record
pub started_right : map started (
    (stored2 2 1 4 1 ++ stored2 1 1 3 0 ++ trailer2 40 2)
    ∷ (stored2 2 1 4 2 ++ stored2 1 1 3 0 ++ trailer2 40 2)
    ∷ (stored 2 0 1 4 ++ stored 1 0 1 3 ++ trailer 32 2)
    ∷ (stored2 2 1 4 2 ++ stored2 1 0 3 0 ++ trailer2 40 2)
    ∷ [])
    ≡ (0 at_place 0, (1, 100) ∷ (2, 101) ∷ [])
    ∷ (12 at_place 1, [])
    ∷ (0 at_place 0, (1, 100) ∷ (2, 100) ∷ [])
    ∷ (7 at_place 1, [])
    ∷ []
started_right = refl
