-- The check of a run state: how far its loop has come, and the answer. Assumes nothing.
use Rattle.std.proofs.Common.{◌≡◌, ℕ, ◌+◌, ◌<◌, ◌≤◌, Bool, true, false, not, ◌&&◌, ◌||◌, Some, None, leb, List, map, length, get_or, take, drop, set, sym, refl, ◌∙◌, arith, length-set, le-leb, leb-true}
use Rattle.std.specs.Bool.{then_some}
use borrow.Author.Tests.{lt-leb}
use Rattle.rules.specs.declared.RunRow.{RunRow}
use Rattle.rules.specs.declared.Run.{Run}
use Rattle.rules.specs.RunState.{every, id_of, distinct, row_ok, row_none, in_hold, any, one_hold, used_rows, acceptable}
use Rattle.rules.proofs.Tests.{and_left, and_right, and_no, and_true}
use Rattle.stepping.proofs.Scan.{in_order, order_turn, order_end, any_turn, any_end, ids_more}
use Rattle.stepping.specs.Holding.{holding_of}

-- ── The count ──

-- the count is not 1 to 64
pub too_few : (run : Run) → run.count < 1 → None ≡ holding_of run
unfolding acceptable
too_few run h = simp (lt-leb _ _ h)

pub too_many : (run : Run) → 64 < run.count → None ≡ holding_of run
unfolding acceptable
too_many run h = simp (lt-leb _ _ h, and_no)

-- ── The verdict ──

or_no : (a : Bool) → a || false ≡ a
or_no true = refl
or_no false = refl

last_second : (a b c d : Bool) → a && b && c && d ≡ a && d && b && c
last_second false b c d = refl
last_second true b c true = and_true (b && c)
last_second true b c false = and_no (b && c)

-- the conditions in the order in which the code comes to them
acceptable_is : (run : Run) → 1 ≤ run.count → run.count ≤ 64 → acceptable run ≡ every (row_ok run.clock) (used_rows run) && one_hold (used_rows run) && every row_none (drop run.count run.rows) && distinct (map id_of (used_rows run))
unfolding acceptable
acceptable_is run h k =
    rw (le-leb _ _ h, le-leb _ _ k) (last_second (every (row_ok run.clock) (used_rows run)) (every row_none (drop run.count run.rows)) (distinct (map id_of (used_rows run))) (one_hold (used_rows run)))

-- ── What the answer says ──

none_given : (a b : Bool) → None ≡ then_some b a → b ≡ false
none_given a true e = let z : ◌≡◌ {A = ℕ} 0 1 = cc in absurd (omega arith)
none_given a false e = refl

some_given : (t a b : Bool) → Some t ≡ then_some b a → (b ≡ true) × (a ≡ t)
some_given t a true e = (refl, cc)
some_given t a false e = let z : ◌≡◌ {A = ℕ} 0 1 = cc in absurd (omega arith)

pub no_state : (run : Run) → None ≡ holding_of run → acceptable run ≡ false
no_state run e = none_given (any in_hold (used_rows run)) (acceptable run) e

pub run_state : (run : Run) (t : Bool) → Some t ≡ holding_of run → (acceptable run ≡ true) × (any in_hold (used_rows run) ≡ t)
run_state run t e = some_given t (any in_hold (used_rows run)) (acceptable run) e

-- a run state has at most 64 rows in use, and at most one of them is in its hold
module _ (run : Run) (h : acceptable run ≡ true) where
  pub count_fits : run.count ≤ 64
  unfolding acceptable
  count_fits =
      let used = every (row_ok run.clock) (used_rows run) in
      let beyond = every row_none (drop run.count run.rows) in
      let ids = distinct (map id_of (used_rows run)) in
      let few = leb 1 run.count && leb run.count 64 in
      leb-true _ _
      (and_right (leb 1 run.count) (leb run.count 64) (and_left few used (and_left (few && used) beyond (and_left (few && used && beyond) ids (and_left (few && used && beyond && ids) (one_hold (used_rows run)) h)))))

  pub one_holds : one_hold (used_rows run) ≡ true
  unfolding acceptable
  one_holds =
      and_right (leb 1 run.count && leb run.count 64 && every (row_ok run.clock) (used_rows run) && every row_none (drop run.count run.rows) && distinct (map id_of (used_rows run))) (one_hold (used_rows run)) h

-- ── The rows in use ──

-- `ok` says whether the rows before i are in order, `ids` has their ids, and `holding` says whether one of them is in its hold
pub record UsedTo (run : Run) (ids : List ℕ) (ok holding : Bool) (i : ℕ) : Type 0 where
  pub some : 1 ≤ run.count
  pub few : run.count ≤ 64
  pub long : length run.rows ≡ 64
  pub room : length ids ≡ 64
  pub up_to : i ≤ run.count
  pub named : take i ids ≡ map id_of (take i run.rows)
  pub same : ok && in_order run.clock holding (drop i (used_rows run)) ≡ every (row_ok run.clock) (used_rows run) && one_hold (used_rows run)
  pub held : holding || any in_hold (drop i (used_rows run)) ≡ any in_hold (used_rows run)

module _ {run : Run} {ids : List ℕ} {ok holding : Bool} {i : ℕ} (p : UsedTo run ids ok holding i) where
  fits : run.count ≤ length run.rows
  fits = omega (arith, p.long, p.few)

  pub used_next : (d : RunRow) → i < run.count → {r t : Bool} → r ≡ row_ok run.clock (get_or run.rows i d) → t ≡ in_hold (get_or run.rows i d) → UsedTo run (set ids i (id_of (get_or run.rows i d))) (ok && (r && not (holding && t))) (holding || t) (i + 1)
  used_next d h e w =
      record {
        some = p.some;
        few = p.few;
        long = p.long;
        room = length-set ids i _ ∙ p.room;
        up_to = omega arith;
        named = ids_more ids run.rows i d (omega (arith, p.room, p.few)) (omega (arith, p.long, p.few)) p.named;
        same = rw (e, w) (order_turn run.rows run.count fits holding i run.clock ok d h) ∙ p.same;
        held = rw w (any_turn run.rows run.count fits holding i d h) ∙ p.held;
      }

  -- the answer, from the tests of the rows beyond the count and of the ids
  pub checked : run.count ≤ i → (none differ : Bool) → none ≡ every row_none (drop run.count run.rows) → differ ≡ distinct (take run.count ids) → then_some (ok && none && differ) holding ≡ holding_of run
  checked h none differ e w =
      let n : i ≡ run.count = omega (arith, p.up_to) in
      let all = sym (order_end run.rows run.count fits holding i run.clock ok h) ∙ p.same in
      let some = sym p.held ∙ any_end run.rows run.count fits holding i h in
      rw (e, w, rw n at p.named, all, acceptable_is run p.some p.few, some) refl
