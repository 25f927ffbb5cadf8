-- Request 6 worked out: tables with holds, bytes with holds, and runs in which a job could not be set aside.
-- Assumes nothing: the definitions are computed.
use Rattle.std.specs.Prelude.{ℕ, ◌≡◌, refl, Bool, true, false, List, [], ◌∷◌, ◌++◌, map, Some}
use Rattle.rules.specs.declared.Form.TheVariants.{One}
use Rattle.rules.specs.declared.ObjectRow.{ObjectRow}
use Rattle.rules.specs.declared.RunRow.{RunRow}
use Rattle.rules.specs.declared.Run.{Run}
use Rattle.rules.specs.declared.Stored.TheVariants.{Empty}
use Rattle.rules.specs.Refusals.{◌at_place◌, told}
use Rattle.rules.specs.StoredTable.{table_of, table_verdict, read_of, rows_in}
use Rattle.rules.specs.Writing.{table_bytes}
use Rattle.rules.specs.RunState.{used_rows, every, row_ok, row_none, not_in, distinct, in_hold, any, one_hold, acceptable}
use Rattle.rules.specs.Run.{tick, slot_rows, start_of, released_of, served_of, serve_first, may_work, aged_of}
use Rattle.rules.specs.Numbers.{Case, planned, refused, answer_to, classic_to}
use Rattle.rules.specs.WorkedBytes.{stored, trailer}

-- an object row: id, cost, validity, hold
abbrev pub row : ℕ → ℕ → ℕ → ℕ → ObjectRow
row i c v h = record { id = i; cost = c; validity = v; hold = h }

-- ── Plans ──

abbrev pub table : List Case
table =
    -- a hold of 4 behind an object of validity 8 just fits: its deadline is its cost and 3 more; a hold of 5 just does not, whatever the cost
    record { rows = row 1 1 8 1 ∷ row 2 5 20 4 ∷ []; answer = planned ((1, 4, 4) ∷ (2, 7, 13) ∷ []) }
    ∷ record { rows = row 1 1 8 1 ∷ row 2 5 20 5 ∷ []; answer = refused (10 at_place 0) }
    -- the largest hold of those behind counts, not their sum, nor that of those ahead, nor its own
    ∷ record { rows = row 1 1 8 1 ∷ row 2 4 20 4 ∷ row 3 6 60 2 ∷ []; answer = planned ((1, 4, 4) ∷ (2, 7, 13) ∷ (3, 19, 41) ∷ []) }
    ∷ record { rows = row 1 1 8 1 ∷ row 2 4 24 2 ∷ row 3 6 60 3 ∷ []; answer = planned ((1, 3, 5) ∷ (2, 8, 16) ∷ (3, 13, 47) ∷ []) }
    ∷ record { rows = row 1 3 6 3 ∷ []; answer = planned ((1, 3, 3) ∷ []) }
    -- equal validities and costs: the smaller id first, so that only the hold of the larger counts; equal validities: the larger cost first
    ∷ record { rows = row 1 2 12 2 ∷ row 2 2 12 1 ∷ []; answer = planned ((1, 2, 10) ∷ (2, 4, 8) ∷ []) }
    ∷ record { rows = row 1 2 12 1 ∷ row 2 2 12 2 ∷ []; answer = planned ((1, 3, 9) ∷ (2, 4, 8) ∷ []) }
    ∷ record { rows = row 1 2 12 2 ∷ row 2 3 12 3 ∷ []; answer = planned ((2, 4, 8) ∷ (1, 5, 7) ∷ []) }
    -- the hold of a row behind leaves no deadline to the first; with a hold of 1 it is planned
    ∷ record { rows = row 2 3 20 3 ∷ row 1 1 3 1 ∷ []; answer = refused (10 at_place 0) }
    ∷ record { rows = row 2 3 20 1 ∷ row 1 1 3 1 ∷ []; answer = planned ((1, 1, 2) ∷ (2, 6, 14) ∷ []) }
    -- a hold above the cost; of 0; a row that breaks 7, 6 and 8; one that breaks 6 and 8
    ∷ record { rows = row 1 2 8 3 ∷ []; answer = refused (6 at_place 0) }
    ∷ record { rows = row 1 2 8 0 ∷ []; answer = refused (6 at_place 0) }
    ∷ record { rows = row 1 0 1 0 ∷ []; answer = refused (7 at_place 0) }
    ∷ record { rows = row 1 1 4 1 ∷ row 2 2 1 3 ∷ []; answer = refused (6 at_place 1) }
    ∷ []

pub right : map (λ (c : Case). answer_to c.rows) table ≡ map (λ (c : Case). c.answer) table
right = refl

-- the classic plan has the same addition: it fits by one slot, and does not
pub classic_right : map classic_to
    ((row 1 1 8 1 ∷ row 2 5 20 4 ∷ []) ∷ (row 1 1 8 1 ∷ row 2 5 20 5 ∷ []) ∷ (row 1 1 8 1 ∷ row 2 2 10 2 ∷ row 3 2 12 2 ∷ []) ∷ [])
    ≡ planned ((1, 4, 4) ∷ (2, 10, 10) ∷ []) ∷ refused (10 at_place 0) ∷ refused (10 at_place 2) ∷ []
classic_right = refl

-- the largest hold, and one more
pub holds_65536 : map (λ (h : ℕ). told (table_verdict (table_of (row 1 70000 400000 h ∷ [])))) (65536 ∷ 65537 ∷ [])
    ≡ (0 at_place 0) ∷ (6 at_place 0) ∷ []
holds_65536 = refl

-- ── Bytes ──

-- the spare field stores the hold less one; and all its bits are of it
pub written_holds : table_bytes (Some One) (row 2 3 9 3 ∷ row 1 1 4 1 ∷ []) (0 ∷ 0 ∷ []) ≡ stored 2 2 3 9 ++ stored 1 0 1 4 ++ trailer 32 2
written_holds = refl

pub read_holds : map (λ (s : List ℕ). rows_in (read_of s).stored.table)
    ((stored 2 2 3 9 ++ trailer 20 1) ∷ (1 ∷ 0 ∷ 255 ∷ 255 ∷ 0 ∷ 0 ∷ 1 ∷ 0 ∷ 0 ∷ 0 ∷ 2 ∷ 0 ∷ trailer 20 1) ∷ [])
    ≡ (row 2 3 9 3 ∷ []) ∷ (row 1 65536 131072 65536 ∷ []) ∷ []
read_holds = refl

-- ── Runs ──

-- the work left of each object after each slot
unfoldable pub lefts : ℕ → List Bool → List RunRow → List (List ℕ)
lefts clock [] rows = []
lefts clock (s ∷ ss) rows =
    let after = slot_rows clock s rows in
    map (λ (r : RunRow). r.left) after ∷ lefts (tick clock) ss after

-- an object of cost 1 and validity 8, first released at 1, ahead of one of cost 5, validity 20 and the hold h, first released at 0
abbrev pub two : ℕ → List RunRow
two h = used_rows (start_of (table_of (row 1 1 8 1 ∷ row 2 5 20 h ∷ [])) 0 (1 ∷ 0 ∷ [])).run

-- with a hold of 4 the object ahead waits for 3 slots and is done at 5, so exactly at its deadline; with a slot stolen in between the hold lasts one slot
-- longer, and its next release is skipped; with a hold of 1 it does not wait
pub held : map (λ (c : List Bool × ℕ). lefts 0 c.0 (two c.1))
    ((false ∷ false ∷ false ∷ false ∷ false ∷ [], 4)
    ∷ (false ∷ false ∷ true ∷ false ∷ false ∷ false ∷ [], 4) ∷ (false ∷ false ∷ false ∷ [], 1) ∷ [])
    ≡ ((0 ∷ 4 ∷ []) ∷ (1 ∷ 3 ∷ []) ∷ (1 ∷ 2 ∷ []) ∷ (1 ∷ 1 ∷ []) ∷ (0 ∷ 1 ∷ []) ∷ [])
    ∷ ((0 ∷ 4 ∷ []) ∷ (1 ∷ 3 ∷ []) ∷ (1 ∷ 3 ∷ []) ∷ (1 ∷ 2 ∷ []) ∷ (1 ∷ 1 ∷ []) ∷ (0 ∷ 1 ∷ []) ∷ [])
    ∷ ((0 ∷ 4 ∷ []) ∷ (0 ∷ 4 ∷ []) ∷ (0 ∷ 3 ∷ []) ∷ [])
    ∷ []
unfolding lefts in_hold any released_of served_of serve_first may_work aged_of
held = refl

-- ── Run states ──

-- a job in hand with so much work left
abbrev pub begun : RunRow → ℕ → RunRow
begun r left = record { planned = r.planned; next = r.next; left = left; sample = 0; lapsed = false; stored = Empty; skips = 0 }

abbrev pub begun_all : List RunRow → List ℕ → List RunRow
begun_all [] ls = []
begun_all (r ∷ rs) [] = r ∷ rs
begun_all (r ∷ rs) (l ∷ ls) = begun r l ∷ begun_all rs ls

-- a run of an object of cost 2 and hold 2 ahead of one of cost 5 and hold 4, with so much work left of each
abbrev pub handed : List ℕ → Run
handed ls =
    let run = (start_of (table_of (row 1 2 12 2 ∷ row 2 5 40 4 ∷ [])) 0 (0 ∷ 0 ∷ [])).run in
    record { clock = 0; count = run.count; rows = begun_all run.rows ls }

-- neither has begun; one is in its hold, beside one that is behind its own or has not begun; both are; and the work left is above the cost
pub accepted : map (λ (ls : List ℕ). acceptable (handed ls)) ((2 ∷ 5 ∷ []) ∷ (1 ∷ 1 ∷ []) ∷ (2 ∷ 2 ∷ []) ∷ (1 ∷ 2 ∷ []) ∷ (3 ∷ 5 ∷ []) ∷ [])
    ≡ true ∷ true ∷ true ∷ false ∷ false ∷ []
unfolding acceptable every row_ok row_none not_in distinct in_hold any one_hold
accepted = refl
