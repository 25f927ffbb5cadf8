-- Sheets worked out: lines of the form and lines that are not, what is exported and what is left in a buffer.
-- Assumes nothing: the definitions are computed.
use Rattle.std.specs.Prelude.{ℕ, zero, suc, ◌+◌, ◌≡◌, refl, List, [], ◌∷◌, ◌++◌, map, replicate}
use Rattle.rules.specs.declared.ObjectRow.{ObjectRow}
use Rattle.rules.specs.Refusals.{Told, ◌at_place◌, told}
use Rattle.rules.specs.StoredTable.{table_of}
use Rattle.rules.specs.Sheet.{comma, cr, lf, digit0, decimal, import_of, sheet_bytes, sheet_after}
use Rattle.rules.specs.Numbers.{row}
use Rattle.rules.specs.WorkedBytes.{nines}

-- the bytes of digits
abbrev pub digits : List ℕ → List ℕ
digits ds = map (λ (d : ℕ). digit0 + d) ds

-- the line "1,1,4,1" without its end; a line end; the line "1,1,4,1"
abbrev pub bare : List ℕ
bare = digits (1 ∷ []) ++ comma ∷ digits (1 ∷ []) ++ comma ∷ digits (4 ∷ []) ++ comma ∷ digits (1 ∷ [])

abbrev pub ended : List ℕ
ended = cr ∷ lf ∷ []

abbrev pub good : List ℕ
good = bare ++ ended

-- the line of an id, a cost and a validity, given by their digits, and a hold of one digit
abbrev pub line_of : List ℕ → List ℕ → List ℕ → ℕ → List ℕ
line_of i c v h = digits i ++ comma ∷ digits c ++ comma ∷ digits v ++ comma ∷ digits (h ∷ []) ++ ended

abbrev pub line : List ℕ → List ℕ → List ℕ → List ℕ
line i c v = line_of i c v 1

-- ── Imported ──

-- number and place of an import's refusal, and how many rows it hands back
abbrev pub imported : List ℕ → Told × ℕ
imported s = let r = import_of s in (told r.verdict, r.table.count)

pub record SheetCase : Type 0 where
  pub sheet : List ℕ
  pub found : Told × ℕ

abbrev pub sheet_table : List SheetCase
sheet_table =
    record { sheet = good; found = (0 at_place 0, 1) }
    -- "+1,1,4,1"; " 1,1,4,1"; "\"1\",1,4,1"; ",1,4,1"; "01,1,4,1"; "1,1,4,1,"; "1,1,4"
    ∷ record { sheet = 43 ∷ good; found = (17 at_place 0, 0) }
    ∷ record { sheet = 32 ∷ good; found = (17 at_place 0, 0) }
    ∷ record { sheet = 34 ∷ digits (1 ∷ []) ++ 34 ∷ comma ∷ digits (1 ∷ []) ++ comma ∷ digits (4 ∷ []) ++ comma ∷ digits (1 ∷ []) ++ ended; found = (17 at_place 0, 0) }
    ∷ record { sheet = comma ∷ digits (1 ∷ []) ++ comma ∷ digits (4 ∷ []) ++ comma ∷ digits (1 ∷ []) ++ ended; found = (17 at_place 0, 0) }
    ∷ record { sheet = digits (0 ∷ []) ++ good; found = (17 at_place 0, 0) }
    ∷ record { sheet = bare ++ comma ∷ ended; found = (17 at_place 0, 0) }
    ∷ record { sheet = digits (1 ∷ []) ++ comma ∷ digits (1 ∷ []) ++ comma ∷ digits (4 ∷ []) ++ ended; found = (17 at_place 0, 0) }
    -- the id 65535 and 65536; the cost 4294967295 (7) and 4294967296; the number 0 as an id, and as a cost (7)
    ∷ record { sheet = line (6 ∷ 5 ∷ 5 ∷ 3 ∷ 5 ∷ []) (1 ∷ []) (4 ∷ []); found = (0 at_place 0, 1) }
    ∷ record { sheet = line (6 ∷ 5 ∷ 5 ∷ 3 ∷ 6 ∷ []) (1 ∷ []) (4 ∷ []); found = (17 at_place 0, 0) }
    ∷ record { sheet = line (1 ∷ []) (4 ∷ 2 ∷ 9 ∷ 4 ∷ 9 ∷ 6 ∷ 7 ∷ 2 ∷ 9 ∷ 5 ∷ []) (4 ∷ []); found = (7 at_place 0, 0) }
    ∷ record { sheet = line (1 ∷ []) (4 ∷ 2 ∷ 9 ∷ 4 ∷ 9 ∷ 6 ∷ 7 ∷ 2 ∷ 9 ∷ 6 ∷ []) (4 ∷ []); found = (17 at_place 0, 0) }
    ∷ record { sheet = line (0 ∷ []) (1 ∷ []) (4 ∷ []); found = (0 at_place 0, 1) }
    ∷ record { sheet = line (1 ∷ []) (0 ∷ []) (4 ∷ []); found = (7 at_place 0, 0) }
    -- a hold of 0 (6), one above the cost (6), and one that is the cost
    ∷ record { sheet = line_of (1 ∷ []) (2 ∷ []) (4 ∷ []) 0; found = (6 at_place 0, 0) }
    ∷ record { sheet = line_of (1 ∷ []) (2 ∷ []) (4 ∷ []) 3; found = (6 at_place 0, 0) }
    ∷ record { sheet = line_of (1 ∷ []) (2 ∷ []) (4 ∷ []) 2; found = (0 at_place 0, 1) }
    -- a line ended by CR alone, by LF alone, and by nothing
    ∷ record { sheet = bare ++ cr ∷ good; found = (17 at_place 0, 0) }
    ∷ record { sheet = bare ++ lf ∷ good; found = (17 at_place 0, 0) }
    ∷ record { sheet = good ++ bare; found = (17 at_place 1, 0) }
    -- no line at all; one empty line; an empty line at the end
    ∷ record { sheet = []; found = (4 at_place 0, 0) }
    ∷ record { sheet = ended; found = (17 at_place 0, 0) }
    ∷ record { sheet = good ++ ended; found = (17 at_place 1, 0) }
    -- the same id again; a line that is refused with 7 ahead of one of another form, which comes first
    ∷ record { sheet = good ++ good; found = (9 at_place 1, 0) }
    ∷ record { sheet = line (1 ∷ []) (0 ∷ []) (4 ∷ []) ++ ended; found = (17 at_place 1, 0) }
    ∷ []

pub sheets_right : map (λ (c : SheetCase). imported c.sheet) sheet_table ≡ map (λ (c : SheetCase). c.found) sheet_table
sheets_right = refl

-- more than 64 lines, and the same with a bad line behind them; more than 4,096 bytes, whatever they are
abbrev pub times : ℕ → List ℕ → List ℕ
times zero s = []
times (suc n) s = s ++ times n s

pub many_lines : map imported (times 65 good ∷ (times 65 good ++ lf ∷ []) ∷ replicate 4097 0 ∷ []) ≡ (4 at_place 0, 0) ∷ (17 at_place 65, 0) ∷ (2 at_place 0, 0) ∷ []
many_lines = refl

-- ── Exported ──

-- the lines in the given order, "0" as itself, no leading zero and no zero lost
pub exported_right : sheet_bytes (row 10 1000 205 ∷ row 0 1 4 ∷ []) ≡ line (1 ∷ 0 ∷ []) (1 ∷ 0 ∷ 0 ∷ 0 ∷ []) (2 ∷ 0 ∷ 5 ∷ []) ++ line (0 ∷ []) (1 ∷ []) (4 ∷ [])
unfolding decimal
exported_right = refl

-- a buffer of nines after exporting: one byte more than needed, one byte less (16), and rows that are refused (7)
pub sheets_left : map (λ (c : List ObjectRow × ℕ). sheet_after (table_of c.0) (nines c.1)) ((row 1 1 4 ∷ [], 10) ∷ (row 1 1 4 ∷ [], 8) ∷ (row 1 0 4 ∷ [], 10) ∷ [])
    ≡ (good ++ nines 1) ∷ nines 8 ∷ nines 10 ∷ []
unfolding decimal
sheets_left = refl
