-- Export and import are the two ways of one road: what is exported imports as the same rows in the same order, and every sheet that imports,
-- exported again, gives the same bytes.
-- Assumes nothing but what each statement says. Bytes are lists of numbers below 256.
use Rattle.std.specs.Prelude.{ℕ, ◌*◌, ◌≤◌, ◌≡◌, refl, Bool, true, false, cond, List, [], ◌∷◌, ◌++◌, leb, length, take, drop}
use Rattle.std.proofs.Common.{ap, ap₂, ◌∙◌, arith, le-leb, length-append, length-take, length-take-le}
use Rattle.std.proofs.Math.Seq.{take-append_seam}
use Rattle.rules.specs.declared.ObjectRow.{ObjectRow}
use Rattle.rules.specs.Answers.{ReadTable, Verdict, Accepted, Refused}
use Rattle.rules.specs.declared.Table.{Table}
use Rattle.rules.specs.declared.Refusal.TheVariants.{TooLong}
use Rattle.rules.specs.StoredTable.{most_bytes, table_of, rows_in, refused_read, answer, count_verdict, checks_from, checks_of, table_verdict, door_of}
use Rattle.rules.specs.Writing.{room_verdict, told_of, left_of}
use Rattle.rules.specs.Sheet.{line_bytes, sheet_bytes, Lines, all_rows, bad_line, lines_of, lines_answer, import_of, export_verdict, exported_of, sheet_after}
use Rattle.rules.proofs.Lists.{Every}
use Rattle.rules.proofs.Checks.{refused_not, both_accept, count_in, count_said, Ranged, all_ranged}
use Rattle.rules.proofs.Digits.{decimal_at_most}
use Rattle.rules.proofs.SheetLines.{Fits, lines_again, lines_back}

-- ── Exported, then imported ──

-- the id is a number of 16 bits
abbrev pub ShortId : ObjectRow → Type 0
ShortId r = r.id ≤ 65535

fits : (r : ObjectRow) → Ranged r → ShortId r → Fits r
fits r g h = record {
  id_to = h;
  cost_to = omega (arith, g.cost_to);
  validity_to = omega (arith, g.validity_to);
  hold_to = omega (arith, g.hold_to);
}

all_fit : (rows : List ObjectRow) → Every Ranged rows → Every ShortId rows → Every Fits rows
all_fit [] g h = tt
all_fit (r ∷ rs) g h = (fits r g.0 h.0, all_fit rs g.1 h.1)

-- a line of numbers in their ranges has at most 29 bytes, so that 64 of them are well below 4,096
line_at_most : (r : ObjectRow) → Ranged r → ShortId r → length (line_bytes r) ≤ 29
line_at_most r g h =
    let i = decimal_at_most 4 r.id (omega (arith, h)) in
    let c = decimal_at_most 6 r.cost (omega (arith, g.cost_to)) in
    let v = decimal_at_most 6 r.validity (omega (arith, g.validity_to)) in
    let t = decimal_at_most 4 r.hold (omega (arith, g.hold_to)) in
    simp length-append (omega (arith, i, c, v, t))

sheet_at_most : (rows : List ObjectRow) → Every Ranged rows → Every ShortId rows → length (sheet_bytes rows) ≤ 29 * length rows
sheet_at_most [] g h = omega arith
sheet_at_most (r ∷ rs) g h =
    omega (arith, length-append (line_bytes r) (sheet_bytes rs), line_at_most r g.0 h.0, sheet_at_most rs g.1 h.1)

-- so a buffer of 1,856 bytes is enough for every table
pub room_for_all : (table : Table) → Every ShortId (rows_in table) → table_verdict table ≡ Accepted
    → length (sheet_bytes (rows_in table)) ≤ 1856
room_for_all table short good =
    let parts = both_accept (count_verdict table.count) (checks_from 0 [] (rows_in table)) good in
    let few = sheet_at_most (rows_in table) (all_ranged 0 [] (rows_in table) parts.1) short in
    let n : length (rows_in table) ≤ table.count = simp length-take (omega arith) in
    omega (arith, few, n, count_said table.count parts.0)

-- what is exported into a buffer imports as the same rows in the same order
pub exported_imports_back : (table : Table) (buffer : List ℕ) → length table.rows ≡ 64 → Every ShortId (rows_in table) → export_verdict table (length buffer) ≡ Accepted
    → import_of (take (exported_of table (length buffer)).size (sheet_after table buffer)) ≡ record { verdict = Accepted; table = table_of (rows_in table) }
exported_imports_back table buffer long short good =
    let rows = rows_in table in
    let checks = (both_accept (table_verdict table) _ good).0 in
    let parts = both_accept (count_verdict table.count) (checks_from 0 [] rows) checks in
    let count = count_said table.count parts.0 in
    let n : length rows ≡ table.count = length-take-le table.count table.rows (omega arith) in
    let ranged = all_ranged 0 [] rows parts.1 in
    let few = sheet_at_most rows ranged short in
    let s : take (exported_of table (length buffer)).size (sheet_after table buffer) ≡ sheet_bytes rows = rw (exported_of, sheet_after, good) (take-append_seam (sheet_bytes rows) _) in
    let lines : lines_of (sheet_bytes rows) ≡ all_rows rows = lines_again (length (sheet_bytes rows)) [] rows (omega arith) (all_fit rows ranged short) in
    let door : door_of rows ≡ record { verdict = Accepted; table = table_of rows } = rw (count_in (length rows) (omega (arith, count, n)) (omega (arith, count, n)), parts.1) in
    rw (s, le-leb (length (sheet_bytes rows)) most_bytes (omega (arith, few, n, count)), lines) door

-- ── Imported, then exported ──

answered : (v : Verdict) (table : Table) → (answer v table).verdict ≡ Accepted → v ≡ Accepted
answered Accepted table e = refl
answered (Refused r k) table e = absurd (refused_not e)

-- what an answer without refusal says of the bytes of the sheet
record Imported (s : List ℕ) (r : ReadTable) : Type 0 where
  rows : List ObjectRow
  bytes : sheet_bytes rows ≡ s
  table_of : r.table ≡ table_of rows
  checked : checks_of (length rows) rows ≡ Accepted

imported : (s : List ℕ) → (import_of s).verdict ≡ Accepted → Imported s (import_of s)
imported s good = by_lines (leb (length s) most_bytes) (lines_of s) (lines_back (length s) [] s) good
  where
    by_lines : (t : Bool) (l : Lines) → ((rows : List ObjectRow) → l ≡ all_rows rows → sheet_bytes rows ≡ s)
        → (cond t (lines_answer l) (refused_read TooLong 0)).verdict ≡ Accepted → Imported s (cond t (lines_answer l) (refused_read TooLong 0))
    by_lines false l said q = absurd (refused_not q)
    by_lines true (bad_line k) said q = absurd (refused_not q)
    by_lines true (all_rows rows) said q =
        let v = answered (checks_of (length rows) rows) (table_of rows) q in
        record { rows = rows; bytes = said rows refl; table_of = rw v; checked = v }

-- every sheet that imports, exported again, gives the same bytes, and what stands behind them in the buffer stays
pub imported_exports_back : (s : List ℕ) → (import_of s).verdict ≡ Accepted → (buffer : List ℕ) → length s ≤ length buffer
    → (sheet_after (import_of s).table buffer ≡ s ++ drop (length s) buffer) × (exported_of (import_of s).table (length buffer) ≡ record { verdict = Accepted; size = length s })
imported_exports_back s good buffer room =
    let m = imported s good in
    let table = table_of m.rows in
    let rows_in_law : rows_in table ≡ m.rows = take-append_seam m.rows _ in
    let bytes : sheet_bytes (rows_in table) ≡ s = ap sheet_bytes rows_in_law ∙ m.bytes in
    let well_formed : table_verdict table ≡ Accepted = ap (λ (l : List ObjectRow). checks_of (length m.rows) l) rows_in_law ∙ m.checked in
    let fits_in : room_verdict (length (sheet_bytes (rows_in table))) (length buffer) ≡ Accepted = rw (bytes, le-leb (length s) (length buffer) room) in
    let ok : export_verdict table (length buffer) ≡ Accepted = rw well_formed fits_in in
    let left : sheet_after table buffer ≡ s ++ drop (length s) buffer = ap₂ (λ (v : Verdict) (l : List ℕ). left_of v l buffer) ok bytes in
    let told : exported_of table (length buffer) ≡ record { verdict = Accepted; size = length s } = ap₂ (λ (v : Verdict) (l : List ℕ). told_of v l) ok bytes in
    (ap (λ (t : Table). sheet_after t buffer) m.table_of ∙ left, ap (λ (t : Table). exported_of t (length buffer)) m.table_of ∙ told)
