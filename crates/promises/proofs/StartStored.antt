-- Starting from stored bytes: the start of the table that was read, with the first releases of its records in priority order.
-- Assumes nothing.
use Rattle.std.specs.Prelude.{ℕ, zero, suc, ◌<◌, ◌≡◌, refl, ◌↔◌, ◌⊎◌, List, [], ◌∷◌, map, length, get_or}
use Rattle.std.proofs.Common.{sym, ap, ◌∙◌, subst, inl, inr, arith}
use Rattle.std.proofs.Math.Decide.{dec_lt}
use Rattle.std.proofs.lemmas.List.{length-map}
use Rattle.std.proofs.Math.ListN.{get_or-append}
use Rattle.rules.specs.declared.ObjectRow.{ObjectRow}
use Rattle.rules.specs.declared.PlanRow.{PlanRow}
use Rattle.rules.specs.declared.Table.{Table}
use Rattle.rules.specs.declared.StoredTable.{StoredTable}
use Rattle.rules.specs.Answers.{ReadStored, Started, Verdict, Accepted, Refused}
use Rattle.rules.specs.declared.Refusal.{Refusal}
use Rattle.rules.specs.declared.Refusal.TheVariants.{NoDeadline}
use Rattle.rules.specs.Refusals.{Told, ◌at_place◌, told}
use Rattle.rules.specs.StoredTable.{no_row, count_of, record_size, form_of, records_start, row_of, first_at, stored_rows, stored_firsts, stored_of}
use Rattle.rules.specs.StoredTable.{table_verdict, trailer_verdict, read_verdict, read_answer, read_of}
use Rattle.rules.specs.Order.{places_of, firsts_in_order}
use Rattle.rules.specs.Deadlines.{plan_of}
use Rattle.rules.specs.Run.{start_of, start_read, start_stored_of}
use Rattle.rules.proofs.Lists.{every_at, pairwise_at}
use Rattle.rules.proofs.Checks.{both_accept, refused_not}
use Rattle.rules.proofs.Places.{places_length, places_below, rows_at_law}
use Rattle.rules.proofs.Bytes.{records_at}
use Rattle.rules.proofs.ReadBytes.{rows_count, firsts_count, well_formed}
use Rattle.rules.proofs.Told.{told_settles}
use Rattle.promises.specs.AnyRecordOrder.{Distinct}
use Rattle.promises.proofs.AnyRecordOrder.{checks_apart}
use Rattle.promises.specs.PlanExactly.{ordered, plans_in}
use Rattle.promises.proofs.PlanExactly.{planned_or_10}
use Rattle.promises.proofs.Plans.{plans_count}
use Rattle.promises.specs.StartExactly.{StartGround, GroundOf}
use Rattle.promises.proofs.StartExactly.{start_exactly}
use Rattle.promises.specs.StartExactly.StartGround.{no_plan, other_number, late_first, all_below}
use Rattle.promises.specs.StartStored.{StoredGround, record_at}
use Rattle.promises.specs.StartStored.StoredGround.{not_read, as_read}

-- ── The start ──

module _ (read : ReadStored) (clock : ℕ) where
  pub start_read_law : read.verdict ≡ Accepted → start_read read clock ≡ start_of read.stored.table clock (firsts_in_order read.stored)
  start_read_law e = rw e

  start_refused : {r : Refusal} {k : ℕ} → read.verdict ≡ Refused r k → (start_read read clock).verdict ≡ Refused r k
  start_refused e = rw e

  -- a start from stored bytes is accepted, or refused with a number and a place, exactly on its ground
  pub stored_exactly : (n : Told) → (told (start_read read clock).verdict ≡ n) ↔ StoredGround read n
  stored_exactly n = (by_read read.verdict refl, answered)
    where
      by_read : (v : Verdict) → read.verdict ≡ v → told (start_read read clock).verdict ≡ n → StoredGround read n
      by_read Accepted w e =
          let same = ap (λ (x : Started). told x.verdict) (start_read_law w) in
          as_read w ((start_exactly (plan_of read.stored.table) clock (firsts_in_order read.stored) n).0 (sym same ∙ e))
      by_read (Refused r k) w e = subst (StoredGround read) (sym (ap told (start_refused w)) ∙ e) (not_read w)

      answered : {m : Told} → StoredGround read m → told (start_read read clock).verdict ≡ m
      answered (not_read w) = ap told (start_refused w)
      answered (as_read {n = m} w g) =
          ap (λ (x : Started). told x.verdict) (start_read_law w)
          ∙ (start_exactly (plan_of read.stored.table) clock (firsts_in_order read.stored) m).1 g

-- ── Behind reading, only 10 and 12 ──

accepted_read : (s : List ℕ) → (read_of s).verdict ≡ Accepted → read_verdict s ≡ Accepted
accepted_read s e = by_verdict (read_verdict s) e
  where
    by_verdict : (v : Verdict) → (read_answer v (stored_of s)).verdict ≡ Accepted → v ≡ Accepted
    by_verdict Accepted q = refl
    by_verdict (Refused r k) q = absurd (refused_not q)

was_read : (s : List ℕ) → read_verdict s ≡ Accepted → (read_of s).stored ≡ stored_of s
was_read s reads = rw reads

-- a planned table with as many first releases is started, or refused with 12
below_or_12 : {v : Verdict} {plans : List PlanRow} {firsts : List ℕ} {n : Told} → StartGround v plans firsts n → v ≡ Accepted
    → length firsts ≡ length plans → (n ≡ 0 at_place 0) ⊎ ((k : ℕ) × (n ≡ 12 at_place k))
below_or_12 (no_plan w) e m = absurd (refused_not (sym w ∙ e))
below_or_12 (other_number w d) e m = absurd (d m)
below_or_12 (late_first {k = k} w d f) e m = inr (k, refl)
below_or_12 (all_below w d f) e m = inl refl

-- what was read is well-formed and has a first release for each object
pub started_or_refused : (s : List ℕ) (clock : ℕ) → (read_of s).verdict ≡ Accepted → let n = told (start_stored_of s clock).verdict in
    (n ≡ 0 at_place 0) ⊎ ((k : ℕ) × ((n ≡ 10 at_place k) ⊎ (n ≡ 12 at_place k)))
started_or_refused s clock e = elim (planned_or_10 table formed) [
  | inl planned ↦ (
      let many : length firsts ≡ length (plans_in table) = firsts_many ∙ sym (plans_count table planned) in
      elim (below_or_12 ((exactly _).0 refl) planned many) [
        | inl z ↦ inl z
        | inr z ↦ inr (z.0, inr z.1)
      ])
  | inr ten ↦ (
      let k = ten.0 in
      let w = told_settles (plan_of table).verdict (Refused NoDeadline k) ten.1 in
      inr (k, inl ((exactly (10 at_place k)).1 (no_plan w))))
]
  where
    stored : StoredTable
    stored = (read_of s).stored

    table : Table
    table = stored.table

    firsts : List ℕ
    firsts = firsts_in_order stored

    firsts_many : length firsts ≡ table.count
    firsts_many = length-map (places_of table.rows table.count) _ ∙ places_length table.rows table.count

    formed : table_verdict table ≡ Accepted
    formed =
        let reads = accepted_read s e in
        ap (λ (x : StoredTable). table_verdict x.table) (was_read s reads) ∙ well_formed s reads

    exactly : (n : Told) → (told (start_stored_of s clock).verdict ≡ n) ↔ GroundOf (plan_of table) firsts n
    exactly n = rw (start_read_law (read_of s) clock e) (start_exactly (plan_of table) clock firsts n)

-- ── The first releases ──

mapped_at : (f : ℕ → ℕ) (ps : List ℕ) (i : ℕ) → i < length ps → get_or (map f ps) i 0 ≡ f (get_or ps i 0)
mapped_at f [] i h = absurd (omega arith)
mapped_at f (p ∷ ps) zero h = refl
mapped_at f (p ∷ ps) (suc i) h = mapped_at f ps i (omega arith)

-- where no id comes twice, the id tells the place
id_tells : (rows : List ObjectRow) → Distinct rows → (p k : ℕ) → p < length rows → k < length rows
    → (get_or rows p no_row).id ≡ (get_or rows k no_row).id → p ≡ k
id_tells rows apart p k hp hk e = by_order (dec_lt p k) (dec_lt k p)
  where
    by_order : Dec (p < k) → Dec (k < p) → p ≡ k
    by_order (yes l) b = absurd (pairwise_at (λ x y. x.id ≡ y.id → ⊥) no_row rows apart p k l hk e)
    by_order (no m) (yes l) = absurd (pairwise_at (λ x y. x.id ≡ y.id → ⊥) no_row rows apart k p l hp (sym e))
    by_order (no m) (no l) = omega arith

-- the object at place i of the plan starts with the first release of the record that has its id
pub first_of_record : (s : List ℕ) → (read_of s).verdict ≡ Accepted → (i k : ℕ) → i < count_of s → k < count_of s
    → (get_or (ordered (read_of s).stored.table) i no_row).id ≡ (row_of s (record_at s k)).id
    → get_or (firsts_in_order (read_of s).stored) i 0 ≡ first_at (form_of s) s (record_at s k)
first_of_record s e i k hi hk same =
    let reads = accepted_read s e in
    let stored = stored_of s in
    let t = was_read s reads in
    let n = rows_count s reads in
    let inside : (j : ℕ) → j < count_of s → j < length (stored_rows s) = λ j h. subst (λ m. j < m) (sym n) h in
    let places = places_of stored.table.rows stored.table.count in
    let l : i < length places = rw (places_length stored.table.rows stored.table.count, n) hi in
    let p = get_or places i 0 in
    let hp : p < count_of s =
    subst (λ m. p < m) n (every_at _ 0 places (places_below stored.table.rows stored.table.count) i l) in
    let row : (j : ℕ) → j < count_of s → get_or (stored_rows s) j no_row ≡ row_of s (record_at s j) = λ j h.
    records_at row_of (record_size (form_of s)) s (records_start s) (count_of s) j no_row h in
    let here : get_or (ordered stored.table) i no_row ≡ get_or (stored_rows s) p no_row =
    rows_at_law stored.table.rows places i l ∙ get_or-append (stored_rows s) _ no_row p (inside p hp) in
    let apart = (checks_apart 0 [] (stored_rows s) (both_accept (trailer_verdict s) _ reads).1).1 in
    let same_id : (get_or (stored_rows s) p no_row).id ≡ (get_or (stored_rows s) k no_row).id =
    ap (λ (r : ObjectRow). r.id) (sym here) ∙ (rw t at same ∙ ap (λ (r : ObjectRow). r.id) (sym (row k hk))) in
    let found : p ≡ k = id_tells (stored_rows s) apart p k (inside p hp) (inside k hk) same_id in
    let first : get_or stored.firsts p 0 ≡ first_at (form_of s) s (record_at s p) =
    get_or-append (stored_firsts s) _ 0 p (subst (λ m. p < m) (sym (firsts_count s reads)) hp)
    ∙ records_at (first_at (form_of s)) (record_size (form_of s)) s (records_start s) (count_of s) p 0 hp in
    rw t (mapped_at (λ q. get_or stored.firsts q 0) places i l ∙ (first ∙ ap (λ (j : ℕ). first_at (form_of s) s (record_at s j)) found))
