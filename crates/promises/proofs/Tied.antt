-- The run of the rules is the history of the theory in 32 bits, slot by slot, and so it stays acceptable.
-- Assumes states in which a run can be: `Encodable`.
use Prim.Native.Nat.{ℕ, zero, suc, ◌+◌, ◌-◌, ◌%◌, ◌^◌, ◌≤◌, ◌<◌}
use Rattle.std.specs.Prelude.{◌≡◌, Bool, true, false, ◌&&◌, List, [], ◌∷◌, ◌++◌, map, eqb, leb, get_or}
use Rattle.std.proofs.Math.Path.{refl, ap}
use Rattle.std.proofs.Common.{sym, ◌∙◌, arith}
use Rattle.std.proofs.Math.Option.{Option, none, some}
use Rattle.std.proofs.Math.Nat.{add-zero, add-suc}
use Rattle.std.proofs.Math.Decide.{dec_le}
use Rattle.std.proofs.Math.ListN.{length, length-append}
use Rattle.std.proofs.lemmas.List.{length-map}
use Rattle.std.proofs.Math.Seq.{take_at, drop_at}
use borrow.Author.Tests.{eq-eqb, ne_eqb, lt-ltb, le-leb, lt-leb}
use Rattle.rules.specs.declared.PlanRow.{PlanRow}
use Rattle.rules.specs.declared.RunRow.{RunRow}
use Rattle.rules.specs.declared.Stored.TheVariants.{Held}
use Rattle.rules.specs.Deadlines.{no_plan_row}
use Rattle.rules.specs.RunState.{stored_ok, rest_ok, hand_ok, row_ok, row_none, every, id_of, distinct, acceptable}
use Rattle.rules.specs.Run.{no_run_row, stored_as, slot_of}
use Rattle.rules.proofs.Lists.{Every, every_append}
use Rattle.theory.specs.Model.{Object, State, object, at, objects, actual, history, state, Acceptable}
use Rattle.theory.proofs.Track.{objects_length, objects_at, history_objects, history_length}
use Rattle.theory.proofs.Bounds.{stays_acceptable, sampled_before}
use Rattle.theory.specs.Plain.{Whole}
use Rattle.theory.proofs.Plain.{history_whole}
use Rattle.promises.specs.Runs.{run_after, Low, Fits, run_row}
use Rattle.promises.specs.Encode.{object_of, course_from, stored_of, encode, encodes, encode_run}
use Rattle.promises.proofs.Clock.{wrap_tick, young_true, due_true}
use Rattle.promises.proofs.Sound.{Sound, sound_ok}
use Rattle.promises.proofs.Steps.{Known, Aging, Each, each_of, each_more, hold_row, slot_rows_law}
use Rattle.promises.proofs.Steps.Each.{over, also}
use Rattle.promises.proofs.Holds.{one_to}
use Rattle.theory.proofs.Cases.{cond_holds}

-- ── What the tie asks ──

-- states at an instant in which a run with these planned rows can be, where `beyond` are its rows beyond the count
pub record Encodable (ps : List PlanRow) (beyond : List RunRow) (now : ℕ) (ws : List State) : Type 0 where
  pub count_pos : 1 ≤ length ps
  pub size : length ps + length beyond ≡ 64
  pub ids_differ : distinct (map (λ (p : PlanRow). p.id) ps) ≡ true
  pub sound : (i : ℕ) → i < length ps → Sound (get_or ps i no_plan_row)
  pub none_beyond : every row_none beyond ≡ true
  pub low_beyond : Every Low beyond
  pub objects_are : objects ws ≡ map object_of ps
  pub whole : (i : ℕ) → i < length ws → Whole (at ws i)
  pub acceptable_then : Acceptable now ws

pub object_at : (ps : List PlanRow) (i : ℕ) → i < length ps → object (map object_of ps) i ≡ object_of (get_or ps i no_plan_row)
object_at [] i h = absurd (omega arith)
object_at (p ∷ ps) zero h = refl
object_at (p ∷ ps) (suc i) h = object_at ps i (omega arith)

module _ {ps : List PlanRow} {beyond : List RunRow} {now : ℕ} {ws : List State} (k : Encodable ps beyond now ws) where
  pub states_length : length ws ≡ length ps
  states_length = sym (objects_length ws) ∙ (ap length k.objects_are ∙ length-map ps object_of)

  pub planned_at : (i : ℕ) → i < length ps → (at ws i).planned ≡ object_of (get_or ps i no_plan_row)
  planned_at i h =
      let l : i < length ws = rw states_length h in
      objects_at ws i l ∙ (ap (λ (os : List Object). object os i) k.objects_are ∙ object_at ps i h)

  each_known : Each (Known now) ps ws
  each_known =
      each_of ps ws (sym states_length)
      (λ i h.
      let l : i < length ps = rw states_length at h in
      record {
        sound = k.sound i l;
        planned_is = planned_at i l;
        bounded = k.acceptable_then.bounded i h;
        past = k.acceptable_then.past i h;
        whole = k.whole i h;
      })

-- ── The tie ──

encodes_length : (now : ℕ) (ps : List PlanRow) (ws : List State) → length ws ≡ length ps → length (encodes now ps ws) ≡ length ps
unfolding encodes
encodes_length now [] ws e = refl
encodes_length now (p ∷ ps) [] e = absurd (omega arith)
encodes_length now (p ∷ ps) (w ∷ ws) e = ap suc (encodes_length now ps ws (omega arith))

encodes_at : (now : ℕ) (ps : List PlanRow) (ws : List State) (beyond : List RunRow) → length ws ≡ length ps → (i : ℕ) → i < length ps
    → get_or (encodes now ps ws ++ beyond) i no_run_row ≡ encode now (get_or ps i no_plan_row) (at ws i)
unfolding encodes
encodes_at now [] ws beyond e i h = absurd (omega arith)
encodes_at now (p ∷ ps) [] beyond e i h = absurd (omega arith)
encodes_at now (p ∷ ps) (w ∷ ws) beyond e zero h = refl
encodes_at now (p ∷ ps) (w ∷ ws) beyond e (suc i) h = encodes_at now ps ws beyond (omega arith) i (omega arith)

module _ {ps : List PlanRow} {beyond : List RunRow} {from : ℕ} {ws : List State} (k : Encodable ps beyond from ws) (stolen : ℕ → Bool) where
  pub encodable_after : (t : ℕ) → Encodable ps beyond (from + t) (history (course_from from ws stolen) t)
  unfolding actual
  encodable_after t = record {
    count_pos = k.count_pos;
    size = k.size;
    ids_differ = k.ids_differ;
    sound = k.sound;
    none_beyond = k.none_beyond;
    low_beyond = k.low_beyond;
    objects_are = history_objects (course_from from ws stolen) t ∙ k.objects_are;
    whole = λ i h.
        let l = rw (history_length (course_from from ws stolen) t) at h in
        history_whole (course_from from ws stolen) i l (λ u. refl) (k.whole i l) t;
    acceptable_then = stays_acceptable (course_from from ws stolen) k.acceptable_then t;
  }

  -- the run after t slots, whatever slots are stolen and however often the clock has wrapped
  pub run_history : (t : ℕ)
      → run_after (encode_run ps beyond from ws) stolen t ≡ encode_run ps beyond (from + t) (history (course_from from ws stolen) t)
  unfolding run_after encode_run slot_of history
  run_history zero = rw add-zero refl
  run_history (suc t) =
      let c = course_from from ws stolen in
      let now = from + t in
      let hs = history c t in
      let m = encodable_after t in
      let n = encodes_length now ps hs (states_length m) in
      let m' = encodable_after (suc t) in
      let aging = each_of {R = Aging now} ps (history c (suc t)) (sym (states_length m'))
      (λ i h.
      let l : i < length ps = rw (states_length m') at h in
      (k.sound i l, sampled_before c k.acceptable_then i (rw (states_length k) l) t)) in
      rw (
        run_history t,
        take_at (encodes now ps hs) beyond (length ps) n,
        drop_at (encodes now ps hs) beyond (length ps) n,
        slot_rows_law now (stolen t) ps hs (each_known m) aging,
        wrap_tick now,
        add-suc,
      )

-- ── Such a run is acceptable ──

stored_ok_law : (now v : ℕ) (x : Option ℕ) → ((s : ℕ) → x ≡ some s → s ≤ now) → v ≤ 1000000
    → stored_ok (now % 2 ^ 32) v (stored_of now v x) ≡ true
stored_ok_law now v none h u = refl
stored_ok_law now v (some s) h u =
    let past : s ≤ now = h s refl in
    elim (dec_le v (now - s)) [
      | yes y ↦ rw (le-leb v (now - s) y)
      | no y ↦ rw (lt-leb v (now - s) (omega arith), lt-ltb _ v (young_true now s v past (omega arith) u))
    ]

as_low : (mark : Bool) (q s : ℕ) → q < 2 ^ 32 → stored_as mark q ≡ Held s → s < 2 ^ 32
as_low true q s h e = let z : ◌≡◌ {A = ℕ} 0 1 = cc in absurd (omega arith)
as_low false q s h e = let z : q ≡ s = cc in omega arith

stored_low : (now v : ℕ) (x : Option ℕ) (s : ℕ) → stored_of now v x ≡ Held s → s < 2 ^ 32
stored_low now v none s e = let z : ◌≡◌ {A = ℕ} 0 1 = cc in absurd (omega arith)
stored_low now v (some q) s e = as_low (leb v (now - q)) (q % 2 ^ 32) s (omega arith) e

module _ (now : ℕ) (p : PlanRow) (w : State) (k : Known now p w) where
  hand_ok_law : rest_ok (encode now p w) && hand_ok (now % 2 ^ 32) (encode now p w) ≡ true
  unfolding encode
  hand_ok_law = elim (dec_le 1 w.left) [
    | no y ↦ rw (eq-eqb w.left 0 (omega arith))
    | yes y ↦
        rw (ne_eqb w.left 0 (λ z. omega arith))
        (let past = k.past.in_hand y in
        let small = k.sound.small in
        elim (dec_le p.validity (now - w.sample)) [
          | yes z ↦ rw (le-leb p.validity (now - w.sample) z)
          | no z ↦
              (let young = young_true now w.sample p.validity past (omega arith) small in
              rw (lt-leb p.validity (now - w.sample) (omega arith), lt-ltb _ p.validity young))
        ])
  ]

  row_ok_law : row_ok (now % 2 ^ 32) (encode now p w) ≡ true
  unfolding row_ok encode
  row_ok_law =
      let period_is : w.planned.period ≡ p.period = ap (λ (o : Object). o.period) k.planned_is in
      let cost_is : w.planned.cost ≡ p.cost = ap (λ (o : Object). o.cost) k.planned_is in
      let b = k.bounded in
      let s = k.sound in
      rw (
        sound_ok p s,
        due_true now w.next b.next_from (omega arith),
        lt-ltb (w.next - now) p.period (omega arith),
        le-leb w.left p.cost (omega arith),
        stored_ok_law now p.validity w.value k.past.stored s.small,
      ) hand_ok_law

  row_low : Low (encode now p w)
  unfolding encode
  row_low = record {
    next_low = omega arith;
    sample_low = cond_holds (λ s. s < 2 ^ 32) (eqb w.left 0) 0 (w.sample % 2 ^ 32) (λ z. omega arith) (λ z. omega arith);
    stored_low = stored_low now p.validity w.value;
    skips_low = omega arith;
  }

rows_ok : (now : ℕ) {ps : List PlanRow} {ws : List State} → Each (Known now) ps ws → every (row_ok (now % 2 ^ 32)) (encodes now ps ws) ≡ true
unfolding every encodes
rows_ok now over = refl
rows_ok now (also {p = p} {w = w} k ks) = rw (row_ok_law now p w k) (rows_ok now ks)

rows_low : (now : ℕ) {ps : List PlanRow} {ws : List State} → Each (Known now) ps ws → Every Low (encodes now ps ws)
unfolding encodes
rows_low now over = tt
rows_low now (also {p = p} {w = w} k ks) = (row_low now p w k, rows_low now ks)

rows_ids : (now : ℕ) {ps : List PlanRow} {ws : List State} → Each (Known now) ps ws
    → map id_of (encodes now ps ws) ≡ map (λ (p : PlanRow). p.id) ps
unfolding encodes encode
rows_ids now over = refl
rows_ids now (also {p = p} k ks) = ap {B = List ℕ} (λ l. p.id ∷ l) (rows_ids now ks)

module _ {ps : List PlanRow} {beyond : List RunRow} {now : ℕ} {ws : List State} (k : Encodable ps beyond now ws) where
  pub encoded_acceptable : acceptable (encode_run ps beyond now ws) ≡ true
  unfolding acceptable encode_run
  encoded_acceptable =
      let n = encodes_length now ps ws (states_length k) in
      let e = each_known k in
      rw (
        take_at (encodes now ps ws) beyond (length ps) n,
        drop_at (encodes now ps ws) beyond (length ps) n,
        rows_ids now e,
        rows_ok now e,
        one_to now (each_more (hold_row now) e) k.acceptable_then.one_hold_law,
        k.none_beyond,
        k.ids_differ,
        le-leb 1 (length ps) k.count_pos,
        le-leb (length ps) 64 (omega (arith, k.size)),
      )

  pub encoded_fits : Fits (encode_run ps beyond now ws)
  unfolding encode_run
  encoded_fits = record {
    clock_low = omega arith;
    size = simp length-append (omega (arith, encodes_length now ps ws (states_length k), k.size));
    rows_low = every_append Low (encodes now ps ws) beyond (rows_low now (each_known k)) k.low_beyond;
  }

  -- its row at place i
  pub encoded_row : (i : ℕ) → i < length ps → run_row (encode_run ps beyond now ws) i ≡ encode now (get_or ps i no_plan_row) (at ws i)
  unfolding encode_run
  encoded_row i h = encodes_at now ps ws beyond (states_length k) i h

-- the row at place i after t slots
pub row_at : {ps : List PlanRow} {beyond : List RunRow} {from : ℕ} {ws : List State} (k : Encodable ps beyond from ws) (stolen : ℕ → Bool)
    → (t i : ℕ) → i < length ps
    → run_row (run_after (encode_run ps beyond from ws) stolen t) i
    ≡ encode (from + t) (get_or ps i no_plan_row) (state (course_from from ws stolen) i t)
row_at k stolen t i h = rw (run_history k stolen t) (encoded_row (encodable_after k stolen t) i h)
