-- An acceptable run is, in 32 bits, the states of the theory that it is handed in with; so it goes on as their history and stays
-- acceptable. Assumes that the fields of the run fit their words.
use Prim.Native.Nat.{ℕ, zero, suc, ◌+◌, ◌-◌, ◌^◌, ◌≤◌, ◌<◌, min}
use Rattle.std.specs.Prelude.{◌≡◌, refl, Bool, true, false, not, ◌&&◌, List, [], ◌∷◌, map, length, drop, get_or, eqb, leb}
use Rattle.std.proofs.Common.{ap, ap₂, sym, ◌∙◌, length-drop, length-take-le, eq-eqb, ne_eqb, le-leb, eqb-true, ltb-true, leb-true}
use Rattle.std.proofs.Math.Option.{some}
use Rattle.std.proofs.Math.Decide.{dec_le}
use native.Mathlib.Omega.{arith}
use Rattle.std.proofs.lemmas.List.{length-map}
use Rattle.std.proofs.Math.ListN.{take-append-drop, get_or-map}
use Rattle.std.proofs.lemmas.Bool.{lt-leb, not-true}
use Rattle.rules.specs.declared.PlanRow.{PlanRow}
use Rattle.rules.specs.declared.RunRow.{RunRow}
use Rattle.rules.specs.declared.Run.{Run}
use Rattle.rules.specs.declared.Stored.{Stored}
use Rattle.rules.specs.declared.Stored.TheVariants.{Empty, Held, Lapsed}
use Rattle.rules.specs.RunState.{age_of, due_in, plan_ok, next_ok, left_ok, stored_ok, rest_ok, hand_ok, row_ok, row_none, every, id_of, distinct}
use Rattle.rules.specs.RunState.{one_hold, used_rows, acceptable}
use Rattle.rules.specs.Run.{no_run_row, slot_of}
use Rattle.rules.proofs.Lists.{Every, every_take, every_drop}
use Rattle.rules.proofs.Tests.{and_left, and_right, both_true}
use Rattle.theory.specs.Model.{Object, at, objects, history, Bounded, Past}
use Rattle.theory.specs.Plain.{Whole}
use Rattle.promises.specs.Runs.{run_after, Low, Fits, plans}
use Rattle.promises.specs.Encode.{object_of, sample_of, lapsed_of, stored_of, encode, encodes, encode_run, from_of, sampled_in, value_in}
use Rattle.promises.specs.Encode.{decode, beyond, states_at, course_of}
use Rattle.promises.proofs.Clock.{from_clock, from_due, from_sampled, sampled_past}
use Rattle.theory.proofs.Cases.{cond_holds}
use Rattle.promises.specs.Tests.{and_parts}
use Rattle.promises.proofs.Sound.{Sound, ok_sound}
use Rattle.promises.proofs.Steps.{Known, SameHold, Each, hold_row}
use Rattle.promises.proofs.Steps.Each.{over, also}
use Rattle.promises.proofs.Holds.{one_from}
use Rattle.promises.proofs.Tied.{Encodable, encodable_after, run_history, encoded_acceptable, encoded_fits}

-- ── One row ──

-- what an acceptable row says
pub record RowSays (clock : ℕ) (row : RunRow) : Type 0 where
  pub sound : Sound row.planned
  pub near : due_in clock row.next < row.planned.period
  pub left_le : row.left ≤ row.planned.cost
  pub stored_young : stored_ok clock row.planned.validity row.stored ≡ true
  pub at_rest : row.left ≡ 0 → (row.sample ≡ 0) × (row.lapsed ≡ false)
  pub in_hand : 0 < row.left → row.lapsed ≡ false → age_of clock row.sample < row.planned.validity

row_says : (clock : ℕ) (row : RunRow) → row_ok clock row ≡ true → RowSays clock row
unfolding row_ok
row_says clock row ok =
    let v = row.planned.validity in
    let hand = rest_ok row && hand_ok clock row in
    let q = and_parts (plan_ok row.planned) (next_ok clock row) (left_ok row) (stored_ok clock v row.stored) hand ok in
    let rests_held = both_true (rest_ok row) (hand_ok clock row) q.4 in
    record {
      sound = ok_sound row.planned q.0;
      near = ltb-true _ _ q.1;
      left_le = leb-true _ _ q.2;
      stored_young = q.3;
      at_rest = λ z.
          let g : eqb row.sample 0 && not row.lapsed ≡ true = simp (eq-eqb row.left 0 z) at rests_held.0 in
          let b = both_true (eqb row.sample 0) (not row.lapsed) g in
          (eqb-true _ _ b.0, not-true _ b.1);
      in_hand = λ h e. ltb-true _ _ (simp (ne_eqb row.left 0 (λ z. omega arith), e) at rests_held.1);
    }

-- its stored value is, in 32 bits, the one that it is handed in with
stored_back : (clock v : ℕ) (x : Stored) → clock < 2 ^ 32 → v ≤ 1000000 → ((s : ℕ) → x ≡ Held s → s < 2 ^ 32) → stored_ok clock v x ≡ true
    → stored_of (from_of clock) v (value_in clock x) ≡ x
stored_back clock v Empty l u h k = refl
stored_back clock v Lapsed l u h k = rw (le-leb v (from_of clock - (from_of clock - 2 ^ 32)) (omega arith))
stored_back clock v (Held s) l u h k =
    let young : age_of clock s < v = ltb-true _ _ k in
    rw (lt-leb v (from_of clock - sampled_in clock false s) (omega arith), from_sampled clock s false l (h s refl))

-- and so is whether its sample in hand has lapsed
lapsed_back : (clock v s : ℕ) (lapsed : Bool) → clock < 2 ^ 32 → v ≤ 1000000 → (lapsed ≡ false → age_of clock s < v)
    → leb v (from_of clock - sampled_in clock lapsed s) ≡ lapsed
lapsed_back clock v s true l u h = le-leb v (from_of clock - sampled_in clock true s) (omega arith)
lapsed_back clock v s false l u h =
    let young = h refl in lt-leb v (from_of clock - sampled_in clock false s) (omega arith)

-- no stored value is later than that instant
value_past : (clock : ℕ) (x : Stored) (p : ℕ) → value_in clock x ≡ some p → p ≤ from_of clock
value_past clock Empty p e = let z : ◌≡◌ {A = ℕ} 0 1 = cc in absurd (omega arith)
value_past clock Lapsed p e = let z : from_of clock - 2 ^ 32 ≡ p = cc in omega arith
value_past clock (Held s) p e = let z : sampled_in clock false s ≡ p = cc in omega arith

module _ (clock : ℕ) (row : RunRow) (l : clock < 2 ^ 32) (w : Low row) (ok : RowSays clock row) where
  decoded_sample : sample_of row.left (decode clock row).sample ≡ row.sample
  unfolding decode
  decoded_sample = elim (dec_le 1 row.left) [
    | yes y ↦ rw (ne_eqb row.left 0 (λ z. omega arith)) (from_sampled clock row.sample row.lapsed l w.sample_low)
    | no y ↦ rw (eq-eqb row.left 0 (omega arith)) (sym (ok.at_rest (omega arith)).0)
  ]

  decoded_lapsed : lapsed_of (from_of clock) row.planned.validity row.left (decode clock row).sample ≡ row.lapsed
  unfolding decode
  decoded_lapsed = elim (dec_le 1 row.left) [
    | yes y ↦
        rw (ne_eqb row.left 0 (λ z. omega arith))
        (lapsed_back clock row.planned.validity row.sample row.lapsed l ok.sound.small (ok.in_hand y))
    | no y ↦ rw (eq-eqb row.left 0 (omega arith)) (sym (ok.at_rest (omega arith)).1)
  ]

  decoded_row : encode (from_of clock) row.planned (decode clock row) ≡ row
  unfolding encode decode
  decoded_row =
      let low = w.skips_low in
      let skips_is : min row.skips 4294967295 ≡ row.skips = omega arith in
      simp (
        from_due clock row.next l w.next_low,
        decoded_sample,
        decoded_lapsed,
        stored_back clock row.planned.validity row.stored l ok.sound.small w.stored_low ok.stored_young,
        skips_is,
      )

decoded_bounded : (clock : ℕ) (row : RunRow) → RowSays clock row → Bounded (from_of clock) (decode clock row)
unfolding decode
decoded_bounded clock row ok =
    let cost = row.planned.cost in
    record {
      next_from = omega arith;
      next_below = omega (arith, ok.near);
      left_le =
          cond_holds (λ x. row.left ≤ x) (eqb row.left 0) 0 cost
          (λ z. omega (arith, eqb-true row.left 0 z)) (λ z. ok.left_le);
      work_le = cond_holds (λ x. x ≤ cost) (eqb row.left 0) 0 cost (λ z. omega arith) (λ z. omega arith);
      at_rest = λ z. rw (eq-eqb row.left 0 z);
    }

decoded_past : (clock : ℕ) (row : RunRow) → Past (from_of clock) (decode clock row)
unfolding decode
decoded_past clock row = record {
  in_hand = λ h.
      cond_holds (λ x. x ≤ from_of clock) (eqb row.left 0) 0 (sampled_in clock row.lapsed row.sample)
      (λ z. omega arith) (λ z. sampled_past clock row.sample row.lapsed);
  stored = value_past clock row.stored;
}

-- the job in hand has its cost as its work
decoded_whole : (clock : ℕ) (row : RunRow) → Whole (decode clock row)
unfolding decode
decoded_whole clock row h = rw (ne_eqb row.left 0 (λ z. omega arith))

decoded_known : (clock : ℕ) (row : RunRow) → RowSays clock row → Known (from_of clock) row.planned (decode clock row)
unfolding decode
decoded_known clock row says = record {
  sound = says.sound;
  planned_is = refl;
  bounded = decoded_bounded clock row says;
  past = decoded_past clock row;
  whole = decoded_whole clock row;
}

-- ── The rows ──

decoded_rows : (clock : ℕ) (rows : List RunRow) → clock < 2 ^ 32 → Every Low rows → every (row_ok clock) rows ≡ true
    → encodes (from_of clock) (plans rows) (map (decode clock) rows) ≡ rows
unfolding every encodes
decoded_rows clock [] l w ok = refl
decoded_rows clock (r ∷ rs) l w ok =
    let says = row_says clock r (and_left (row_ok clock r) (every (row_ok clock) rs) ok) in
    let rest = decoded_rows clock rs l w.1 (and_right (row_ok clock r) (every (row_ok clock) rs) ok) in
    ap₂ {C = List RunRow} (λ x xs. x ∷ xs) (decoded_row clock r l w.0 says) rest

decoded_objects : (clock : ℕ) (rows : List RunRow) → objects (map (decode clock) rows) ≡ map object_of (plans rows)
unfolding objects decode
decoded_objects clock [] = refl
decoded_objects clock (r ∷ rs) = ap {B = List Object} (λ os. object_of r.planned ∷ os) (decoded_objects clock rs)

pub decoded_at : (clock : ℕ) (rows : List RunRow) (i : ℕ) → i < length rows
    → at (map (decode clock) rows) i ≡ decode clock (get_or rows i no_run_row)
decoded_at clock [] i h = absurd (omega arith)
decoded_at clock (r ∷ rs) zero h = refl
decoded_at clock (r ∷ rs) (suc i) h = decoded_at clock rs i (omega arith)

decoded_holds : (clock : ℕ) (rows : List RunRow) → every (row_ok clock) rows ≡ true
    → Each (SameHold (from_of clock)) (plans rows) (map (decode clock) rows)
unfolding every
decoded_holds clock [] ok = over
decoded_holds clock (r ∷ rs) ok =
    let b = both_true (row_ok clock r) (every (row_ok clock) rs) ok in
    let known = decoded_known clock r (row_says clock r b.0) in
    also (hold_row (from_of clock) r.planned (decode clock r) known) (decoded_holds clock rs b.1)

plan_ids : (rows : List RunRow) → map id_of rows ≡ map (λ (p : PlanRow). p.id) (plans rows)
plan_ids [] = refl
plan_ids (r ∷ rs) = ap {B = List ℕ} (λ l. r.planned.id ∷ l) (plan_ids rs)

says_at : (clock : ℕ) (rows : List RunRow) → every (row_ok clock) rows ≡ true → (i : ℕ) → i < length rows
    → RowSays clock (get_or rows i no_run_row)
unfolding every
says_at clock [] ok i h = absurd (omega arith)
says_at clock (r ∷ rs) ok zero h = row_says clock r (and_left (row_ok clock r) (every (row_ok clock) rs) ok)
says_at clock (r ∷ rs) ok (suc i) h = says_at clock rs (and_right (row_ok clock r) (every (row_ok clock) rs) ok) i (omega arith)

-- ── The run ──

-- what an acceptable run says
pub record RunSays (run : Run) : Type 0 where
  pub count_pos : 1 ≤ run.count
  pub count_le : run.count ≤ 64
  pub rows_ok : every (row_ok run.clock) (used_rows run) ≡ true
  pub none_beyond : every row_none (drop run.count run.rows) ≡ true
  pub ids_differ : distinct (map id_of (used_rows run)) ≡ true
  pub one_hold_law : one_hold (used_rows run) ≡ true

pub run_says : (run : Run) → acceptable run ≡ true → RunSays run
unfolding acceptable
run_says run ok =
    let rows_ok = every (row_ok run.clock) (used_rows run) in
    let none_beyond = every row_none (drop run.count run.rows) in
    let ids_differ = distinct (map id_of (used_rows run)) in
    let others = leb 1 run.count && leb run.count 64 && rows_ok && none_beyond && ids_differ in
    let b = both_true others (one_hold (used_rows run)) ok in
    let q = and_parts (leb 1 run.count) (leb run.count 64) rows_ok none_beyond ids_differ b.0 in
    record {
      count_pos = leb-true _ _ q.0;
      count_le = leb-true _ _ q.1;
      rows_ok = q.2;
      none_beyond = q.3;
      ids_differ = q.4;
      one_hold_law = b.1;
    }

module _ (run : Run) (w : Fits run) (ok : acceptable run ≡ true) where
  pub accept_size : run.count ≤ length run.rows
  accept_size = omega (arith, (run_says run ok).count_le, w.size)

  pub used_length : length (used_rows run) ≡ run.count
  used_length = length-take-le run.count run.rows accept_size

  plans_length : length (plans (used_rows run)) ≡ run.count
  plans_length = length-map (used_rows run) (λ (r : RunRow). r.planned) ∙ used_length

  pub run_decoded : run ≡ encode_run (plans (used_rows run)) (beyond run) (from_of run.clock) (states_at run)
  unfolding encode_run
  run_decoded =
      let low = every_take Low run.count run.rows w.rows_low in
      let e = decoded_rows run.clock (used_rows run) w.clock_low low (run_says run ok).rows_ok in
      rw (e, from_clock run.clock w.clock_low, plans_length, take-append-drop run.count run.rows)

  pub run_encodable : Encodable (plans (used_rows run)) (beyond run) (from_of run.clock) (states_at run)
  run_encodable =
      let r = run_says run ok in
      let clock = run.clock in
      let says = says_at clock (used_rows run) r.rows_ok in
      let same = decoded_objects clock (used_rows run) in
      let used : (i : ℕ) → i < length (states_at run) → i < length (used_rows run) = λ i h.
      rw (length-map (used_rows run) (decode clock)) at h in
      let low = every_take Low run.count run.rows w.rows_low in
      let rows_are = decoded_rows clock (used_rows run) w.clock_low low r.rows_ok in
      let one = one_from (from_of clock) (decoded_holds clock (used_rows run) r.rows_ok) (rw rows_are r.one_hold_law) in
      record {
        count_pos = omega (arith, plans_length, r.count_pos);
        size = omega (arith, plans_length, length-drop run.count run.rows, w.size, r.count_le);
        ids_differ = rw (plan_ids (used_rows run)) at r.ids_differ;
        sound = λ i h.
            let l : i < length (used_rows run) = rw (length-map (used_rows run) (λ (x : RunRow). x.planned)) at h in
            rw (get_or-map (λ (x : RunRow). x.planned) (used_rows run) i no_run_row) (says i l).sound;
        none_beyond = r.none_beyond;
        low_beyond = every_drop Low run.count run.rows w.rows_low;
        objects_are = same;
        whole = λ i h. rw (decoded_at clock (used_rows run) i (used i h)) (decoded_whole clock (get_or (used_rows run) i no_run_row));
        acceptable_then = record {
          bounded = λ i h.
              let l = used i h in
              rw (decoded_at clock (used_rows run) i l) (decoded_bounded clock (get_or (used_rows run) i no_run_row) (says i l));
          past = λ i h. rw (decoded_at clock (used_rows run) i (used i h)) (decoded_past clock (get_or (used_rows run) i no_run_row));
          one_hold_law = one;
        };
      }

  -- the run after t slots
  pub any_history : (stolen : ℕ → Bool) (t : ℕ)
      → run_after run stolen t ≡ encode_run (plans (used_rows run)) (beyond run) (from_of run.clock + t) (history (course_of run stolen) t)
  any_history stolen t = ap (λ r. run_after r stolen t) run_decoded ∙ run_history run_encodable stolen t

  -- a slot keeps any acceptable run acceptable, and its fields fit their words
  pub slot_keeps : (stolen : Bool) → Fits (slot_of run stolen) × (acceptable (slot_of run stolen) ≡ true)
  unfolding run_after
  slot_keeps stolen =
      let k = encodable_after run_encodable (λ t. stolen) 1 in
      rw (any_history (λ t. stolen) 1) (encoded_fits k, encoded_acceptable k)
