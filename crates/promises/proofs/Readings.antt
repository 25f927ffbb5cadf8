-- A reading by id reads the row with that id, in any acceptable run, and tells the truth of the state that the run is in 32 bits.
-- Assumes that the fields of the run fit their words.
use Rattle.std.specs.Prelude.{ℕ, zero, suc, ◌-◌, ◌%◌, ◌^◌, ◌≤◌, ◌<◌, ◌≡◌, refl, true, false, not, List, [], ◌∷◌, map, length, get_or, eqb}
use Rattle.std.proofs.Common.{◌∙◌, arith, get_or-take, eq-eqb, lt-ltb, le-ltb, le-leb}
use Rattle.std.proofs.Math.Option.{Option, none, some}
use Rattle.std.proofs.Math.Decide.{dec_le}
use Rattle.std.proofs.lemmas.Bool.{not-true, lt-leb}
use Rattle.rules.specs.declared.PlanRow.{PlanRow}
use Rattle.rules.specs.declared.RunRow.{RunRow}
use Rattle.rules.specs.declared.Run.{Run}
use Rattle.rules.specs.Deadlines.{no_plan_row}
use Rattle.rules.specs.RunState.{id_of, not_in, distinct, used_rows, acceptable}
use Rattle.rules.specs.Run.{no_run_row, value_of, read_from, reading_of, true_reading}
use Rattle.rules.proofs.Tests.{and_left, and_right}
use Rattle.theory.specs.Model.{State, at}
use Rattle.promises.specs.Runs.{Fits, run_row, true_age}
use Rattle.promises.specs.Encode.{stored_of, encode, encode_run}
use Rattle.promises.proofs.Clock.{age_true}
use Rattle.promises.proofs.Tied.{Encodable, states_length, encoded_acceptable, encoded_fits, encoded_row}
use Rattle.promises.proofs.Decode.{run_says, used_length}

-- ── By id ──

other_id : (x : ℕ) (rows : List RunRow) → not_in x (map id_of rows) ≡ true → (i : ℕ) → i < length rows
    → eqb x (get_or rows i no_run_row).planned.id ≡ false
unfolding not_in
other_id x [] h i k = absurd (omega arith)
other_id x (r ∷ rs) h zero k = not-true _ (and_left (not (eqb x r.planned.id)) (not_in x (map id_of rs)) h)
other_id x (r ∷ rs) h (suc i) k = other_id x rs (and_right (not (eqb x r.planned.id)) (not_in x (map id_of rs)) h) i (omega arith)

read_found : (clock : ℕ) (rows : List RunRow) → distinct (map id_of rows) ≡ true → (i : ℕ) → i < length rows
    → read_from clock (get_or rows i no_run_row).planned.id rows ≡ value_of clock (get_or rows i no_run_row).stored
unfolding distinct read_from
read_found clock [] h i k = absurd (omega arith)
read_found clock (r ∷ rs) h zero k = rw (eq-eqb r.planned.id r.planned.id refl)
read_found clock (r ∷ rs) h (suc i) k =
    rw (other_id r.planned.id rs (and_left (not_in r.planned.id (map id_of rs)) (distinct (map id_of rs)) h) i (omega arith))
    (read_found clock rs (and_right (not_in r.planned.id (map id_of rs)) (distinct (map id_of rs)) h) i (omega arith))

-- the reading by the id of the row at place i
read_row : (run : Run) → Fits run → acceptable run ≡ true → (i : ℕ) → i < run.count
    → reading_of run (run_row run i).planned.id ≡ value_of run.clock (run_row run i).stored
unfolding reading_of
read_row run w ok i h =
    let l : i < length (used_rows run) = rw (used_length run w ok) h in
    let e = read_found run.clock (used_rows run) (run_says run ok).ids_differ i l in
    rw ok (rw (get_or-take run.count run.rows i no_run_row h) at e)

-- ── The truth ──

value_true : (now v : ℕ) (x : Option ℕ) → v ≤ 1000000 → ((p : ℕ) → x ≡ some p → p ≤ now)
    → value_of (now % 2 ^ 32) (stored_of now v x) ≡ true_reading (true_age now x) v
value_true now v none u h = refl
value_true now v (some p) u h =
    let past : p ≤ now = h p refl in
    elim (dec_le v (now - p)) [
      | yes y ↦ simp (le-leb v (now - p) y, le-ltb (now - p) v y)
      | no y ↦
          (let young : now - p < v = omega arith in
          simp (lt-leb v (now - p) young, lt-ltb (now - p) v young, age_true now p past (omega arith)))
    ]

-- a reading by an object's id tells what is true of that object
pub reading_true : {ps : List PlanRow} {beyond : List RunRow} {now : ℕ} {ws : List State} → Encodable ps beyond now ws
    → (i : ℕ) → i < length ps
    → reading_of (encode_run ps beyond now ws) (get_or ps i no_plan_row).id
    ≡ true_reading (true_age now (at ws i).value) (get_or ps i no_plan_row).validity
unfolding encode encode_run
reading_true {ps} {beyond} {now} {ws} k i h =
    let run = encode_run ps beyond now ws in
    let p = get_or ps i no_plan_row in
    let at_i = encoded_row k i h in
    let e = read_row run (encoded_fits k) (encoded_acceptable k) i h in
    let e' : reading_of run p.id ≡ value_of run.clock (stored_of now p.validity (at ws i).value) = rw at_i at e in
    let past = (k.acceptable_then.past i (rw (states_length k) h)).stored in
    e' ∙ value_true now p.validity (at ws i).value (k.sound i h).small past
