-- Each of the three steps of a slot, in 32 bits and in the theory, comes to the same row. Step 3 moves the instant on, and nothing else.
-- Assumes sound planned numbers and states within their bounds.
use Rattle.std.specs.Prelude.{ℕ, suc, ◌+◌, ◌-◌, ◌%◌, ◌^◌, ◌≤◌, ◌<◌, min, ◌≡◌, ◌≢◌, Bool, ◌||◌, leb, ltb, length, get_or}
use Rattle.std.proofs.Math.Path.{refl, ap}
use Rattle.std.proofs.Common.{sym, ◌∙◌, arith}
use Rattle.std.proofs.Math.Bool.{true, false, cond}
use mathlib.Core.List.{List, [], ◌∷◌}
use Rattle.std.proofs.Math.Option.{Option, none, some}
use Rattle.std.proofs.Math.Decide.{dec_le}
use borrow.Author.Tests.{eq-eqb, ne_eqb, lt-ltb, le-ltb, le-leb, lt-leb}
use Rattle.rules.specs.declared.PlanRow.{PlanRow}
use Rattle.rules.specs.declared.RunRow.{RunRow}
use Rattle.rules.specs.declared.Stored.TheVariants.{Held, Lapsed}
use Rattle.rules.specs.Deadlines.{no_plan_row}
use Rattle.rules.specs.RunState.{age_of}
use Rattle.rules.specs.RunState as rules
use Rattle.rules.specs.Run.{released_of, step_one, stored_as, served_of, serve_first, may_work, aged_stored, aged_hand, aged_of, step_three}
use Rattle.rules.specs.Run.{slot_rows}
use Rattle.rules.specs.Run as run
use Rattle.rules.proofs.Holds.{released_hold}
use Rattle.theory.specs.Model.{Object, State, at, begun, skipped, release, releases, finished, one_less, worked, has_work, in_hold, any}
use Rattle.theory.specs.Model.{work_first, step_two, slot, Bounded, Past}
use Rattle.theory.proofs.Cases.{release_holds, work_holds}
use Rattle.theory.proofs.Holds.{work_left, in_hold_law, release_hold}
use Rattle.theory.specs.Plain.{Whole}
use Rattle.promises.specs.Encode.{object_of, lapsed_of, stored_of, encode, encodes}
use Rattle.promises.proofs.Clock.{wrap_later, wrap_tick, wrap_same, age_true}
use Rattle.promises.proofs.Sound.{Sound}

-- a count that stops at 4,294,967,295
stops : (k : ℕ) → cond (ltb (min k 4294967295) 4294967295) (min k 4294967295 + 1) (min k 4294967295) ≡ min (suc k) 4294967295
stops k =
    elim (dec_le 4294967295 k) [
      | yes y ↦ (let e : min k 4294967295 ≡ 4294967295 = omega arith in rw e (omega arith))
      | no y ↦ rw (lt-ltb (min k 4294967295) 4294967295 (omega arith)) (omega arith)
    ]

-- ── Lapse marks ──

-- step 3 marks what was marked, and what is too old by the clock
stored_marked : (clock v s : ℕ) (mark : Bool) → aged_stored clock v (stored_as mark s) ≡ stored_as (cond mark true (leb v (age_of clock s))) s
stored_marked clock v s true = refl
stored_marked clock v s false = go (leb v (age_of clock s))
  where
    go : (old : Bool) → cond old Lapsed (Held s) ≡ stored_as old s
    go true = refl
    go false = refl

either : (old mark : Bool) → cond old true mark ≡ cond mark true old
either true true = refl
either true false = refl
either false true = refl
either false false = refl

-- and that is what has truly reached the validity v: what was not marked before is so young that the clock tells its true age
marked : (now p v : ℕ) → p ≤ now → v ≤ 1000000
    → cond (leb v (now - p)) true (leb v (age_of (suc now % 2 ^ 32) (p % 2 ^ 32))) ≡ leb v (suc now - p)
marked now p v past small =
    elim (dec_le v (now - p)) [
      | yes y ↦ rw (le-leb v (now - p) y) (sym (le-leb v (suc now - p) (omega arith)))
      | no y ↦ rw (lt-leb v (now - p) (omega arith), age_true (suc now) p (omega arith) (omega arith))
    ]

-- ── One row ──

-- what is known of the state of an object that is planned so
pub record Known (now : ℕ) (p : PlanRow) (w : State) : Type 0 where
  pub sound : Sound p
  pub planned_is : w.planned ≡ object_of p
  pub bounded : Bounded now w
  pub past : Past now w
  pub whole : Whole w

module _ (now : ℕ) (p : PlanRow) (w : State) where
  -- step 1
  released_row : Known now p w → released_of (now % 2 ^ 32) (encode now p w) ≡ encode now p (release now 0 w)
  unfolding released_of encode begun skipped
  released_row k = release_holds (λ u. released_of (now % 2 ^ 32) (encode now p w) ≡ encode now p u) now 0 w rests begins skips
    where
      rests : w.next ≢ now → released_of (now % 2 ^ 32) (encode now p w) ≡ encode now p w
      rests d =
          let period_is : w.planned.period ≡ p.period = ap (λ (o : Object). o.period) k.planned_is in
          let b = k.bounded in
          let ok = k.sound in
          rw (ne_eqb (w.next % 2 ^ 32) (now % 2 ^ 32) (λ y. d (wrap_same now w.next b.next_from (omega arith) y)))

      begins : w.next ≡ now → w.left ≡ 0 → released_of (now % 2 ^ 32) (encode now p w) ≡ encode now p (begun now 0 w)
      begins d z =
          let ok = k.sound in
          let young : now - now < p.validity = omega arith in
          let pos : p.cost ≢ 0 = λ y. omega arith in
          simp (
            k.planned_is,
            d,
            eq-eqb (now % 2 ^ 32) (now % 2 ^ 32) refl,
            eq-eqb w.left 0 z,
            ne_eqb p.cost 0 pos,
            lt-leb p.validity (now - now) young,
            wrap_later,
          )

      skips : w.next ≡ now → 0 < w.left → released_of (now % 2 ^ 32) (encode now p w) ≡ encode now p (skipped w)
      skips d z =
          let work : w.left ≢ 0 = λ y. omega arith in
          simp (k.planned_is, d, eq-eqb (now % 2 ^ 32) (now % 2 ^ 32) refl, ne_eqb w.left 0 work, stops, wrap_later)

  -- step 2, at a row with work left
  served_row : 0 < w.left → served_of (encode now p w) ≡ encode now p (worked w)
  unfolding served_of encode finished one_less
  served_row h = work_holds (λ u. served_of (encode now p w) ≡ encode now p u) w (λ z. absurd (omega arith)) last more
    where
      last : w.left ≡ 1 → served_of (encode now p w) ≡ encode now p (finished w)
      last z = rw (le-ltb 1 w.left (omega arith), ne_eqb w.left 0 (λ y. omega arith))

      more : 1 < w.left → served_of (encode now p w) ≡ encode now p (one_less w)
      more z = rw (lt-ltb 1 w.left z, ne_eqb w.left 0 (λ y. omega arith), ne_eqb (w.left - 1) 0 (λ y. omega arith))

  -- a job is in its hold in 32 bits and in the theory alike: it has done as many units
  pub hold_row : Known now p w → rules.in_hold (encode now p w) ≡ in_hold w
  unfolding rules.in_hold in_hold encode
  hold_row k = elim (dec_le 1 w.left) [
    | yes y ↦ rw (k.whole y, k.planned_is)
    | no y ↦ rw (eq-eqb w.left 0 (omega arith))
  ]

  -- after step 1 too, which begins no hold and ends none
  released_same : Known now p w → rules.in_hold (encode now p (release now 0 w)) ≡ in_hold (release now 0 w)
  released_same k =
      ap rules.in_hold (sym (released_row k))
      ∙ (released_hold (now % 2 ^ 32) (encode now p w) ∙ (hold_row k ∙ sym (release_hold now 0 w)))

  module _ (ok : Sound p) where
    -- step 3, for the stored value and for the sample in hand
    stored_row : (x : Option ℕ) → ((s : ℕ) → x ≡ some s → s ≤ now)
        → aged_stored (suc now % 2 ^ 32) p.validity (stored_of now p.validity x) ≡ stored_of (suc now) p.validity x
    stored_row none h = refl
    stored_row (some s) h =
        stored_marked (suc now % 2 ^ 32) p.validity (s % 2 ^ 32) (leb p.validity (now - s))
        ∙ ap (λ mark. stored_as mark (s % 2 ^ 32)) (marked now s p.validity (h s refl) ok.small)

    hand_row : (0 < w.left → w.sample ≤ now)
        → aged_hand (suc now % 2 ^ 32) (encode now p w) ≡ lapsed_of (suc now) p.validity w.left w.sample
    unfolding encode
    hand_row h = elim (dec_le 1 w.left) [
      | yes y ↦
          rw (ne_eqb w.left 0 (λ z. omega arith))
          (either (leb p.validity (age_of (suc now % 2 ^ 32) (w.sample % 2 ^ 32))) (leb p.validity (now - w.sample))
          ∙ marked now w.sample p.validity (h y) ok.small)
      | no y ↦ rw (eq-eqb w.left 0 (omega arith))
    ]

    aged_row : Past now w → aged_of (suc now % 2 ^ 32) (encode now p w) ≡ encode (suc now) p w
    unfolding aged_of encode
    aged_row h = simp (hand_row h.in_hand, stored_row w.value h.stored)

-- ── The rows ──

-- row by row
pub data Each (R : PlanRow → State → Type 0) : List PlanRow → List State → Type 0 where
  over : Each R [] []
  also : {p : PlanRow} {w : State} {ps : List PlanRow} {ws : List State} → R p w → Each R ps ws → Each R (p ∷ ps) (w ∷ ws)

pub each_of : {R : PlanRow → State → Type 0} (ps : List PlanRow) (ws : List State) → length ps ≡ length ws
    → ((i : ℕ) → i < length ws → R (get_or ps i no_plan_row) (at ws i)) → Each R ps ws
each_of [] [] e f = Each.over
each_of [] (w ∷ ws) e f = absurd (omega arith)
each_of (p ∷ ps) [] e f = absurd (omega arith)
each_of (p ∷ ps) (w ∷ ws) e f = Each.also (f 0 (omega arith)) (each_of ps ws (omega arith) (λ i h. f (suc i) (omega arith)))

pub each_more : {R S : PlanRow → State → Type 0} → ((p : PlanRow) (w : State) → R p w → S p w) → {ps : List PlanRow} {ws : List State}
    → Each R ps ws → Each S ps ws
each_more f Each.over = Each.over
each_more f (Each.also {p = p} {w = w} k ks) = Each.also (f p w k) (each_more f ks)

-- what step 2 asks
abbrev pub SameHold : ℕ → PlanRow → State → Type 0
SameHold now p w = rules.in_hold (encode now p w) ≡ in_hold w

-- what step 3 asks
abbrev pub Aging : ℕ → PlanRow → State → Type 0
Aging now p w = Sound p × Past now w

module _ (now : ℕ) where
  step_one_law : {ps : List PlanRow} {ws : List State} → Each (Known now) ps ws
      → step_one (now % 2 ^ 32) (encodes now ps ws) ≡ encodes now ps (releases now (λ i. 0) ws)
  unfolding encodes releases
  step_one_law Each.over = refl
  step_one_law (Each.also {p = p} {w = w} k ks) = rw (released_row now p w k, step_one_law ks)

  each_released : {ps : List PlanRow} {ws : List State} → Each (Known now) ps ws → Each (SameHold now) ps (releases now (λ i. 0) ws)
  unfolding releases
  each_released Each.over = Each.over
  each_released (Each.also {p = p} {w = w} k ks) = Each.also (released_same now p w k) (each_released ks)

  -- the first row of those that may work is the same, where they are the same
  serve_first_law : (f : RunRow → Bool) (q : State → Bool) → ((w : State) → q w ≡ true → 0 < w.left) → {ps : List PlanRow} {ws : List State}
      → Each (λ p w. f (encode now p w) ≡ q w) ps ws → serve_first f (encodes now ps ws) ≡ encodes now ps (work_first q ws)
  unfolding serve_first encodes work_first
  serve_first_law f q h Each.over = refl
  serve_first_law f q h (Each.also {p = p} {w = w} {ps = ps} {ws = ws} e es) = rw e (by_turn (q w) refl (serve_first_law f q h es))
    where
      by_turn : (v : Bool) → q w ≡ v → serve_first f (encodes now ps ws) ≡ encodes now ps (work_first q ws)
          → cond v (served_of (encode now p w) ∷ encodes now ps ws) (encode now p w ∷ serve_first f (encodes now ps ws))
          ≡ encodes now (p ∷ ps) (cond v (worked w ∷ ws) (w ∷ work_first q ws))
      by_turn true y ih = ap (λ (r : RunRow). r ∷ encodes now ps ws) (served_row now p w (h w y))
      by_turn false y ih = ap {B = List RunRow} (λ l. encode now p w ∷ l) ih

  -- a hold goes on in both or in none
  pub any_same : {ps : List PlanRow} {ws : List State} → Each (SameHold now) ps ws
      → rules.any rules.in_hold (encodes now ps ws) ≡ any in_hold ws
  unfolding rules.any any encodes
  any_same Each.over = refl
  any_same (Each.also {w = w} e es) = rw e (ap (λ b. in_hold w || b) (any_same es))

  step_two_law : (stolen : Bool) {ps : List PlanRow} {ws : List State} → Each (SameHold now) ps ws
      → run.step_two stolen (encodes now ps ws) ≡ encodes now ps (step_two stolen ws)
  unfolding step_two may_work encode
  step_two_law true e = refl
  step_two_law false {ps} {ws} e = rw (any_same e) (by_hold (any in_hold ws))
    where
      by_hold : (held : Bool) → serve_first (may_work held) (encodes now ps ws) ≡ encodes now ps (work_first (cond held in_hold has_work) ws)
      by_hold true = serve_first_law (may_work true) in_hold (λ w h. (in_hold_law w h).left_pos) e
      by_hold false = serve_first_law (may_work false) has_work work_left (each_more (λ p w h. refl) e)

  step_three_law : {ps : List PlanRow} {ws : List State} → Each (Aging now) ps ws
      → step_three (suc now % 2 ^ 32) (encodes now ps ws) ≡ encodes (suc now) ps ws
  unfolding encodes
  step_three_law Each.over = refl
  step_three_law (Each.also {p = p} {w = w} k ks) = rw (aged_row now p w k.0 k.1, step_three_law ks)

  -- the slot
  pub slot_rows_law : (stolen : Bool) (ps : List PlanRow) (ws : List State) → Each (Known now) ps ws
      → Each (Aging now) ps (slot now (λ i. 0) stolen ws)
      → slot_rows (now % 2 ^ 32) stolen (encodes now ps ws) ≡ encodes (suc now) ps (slot now (λ i. 0) stolen ws)
  unfolding slot
  slot_rows_law stolen ps ws k m = rw (step_one_law k, step_two_law stolen (each_released k), wrap_tick now) (step_three_law m)
