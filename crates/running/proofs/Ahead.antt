-- Clock values ahead, and what the slots before them leave as it is: a row at which no release is due, or nothing lapses.
-- Assumes nothing.
use Rattle.std.proofs.Common.{◌≡◌, ℕ, zero, suc, ◌+◌, ◌-◌, ◌^◌, ◌<◌, ◌≤◌, Bool, true, false, cond, ltb, leb, sym, refl, ap, arith, le-ltb, lt-ltb, eq-eqb, ne_eqb}
use Rattle.rules.specs.declared.RunRow.{RunRow}
use Rattle.rules.specs.RunState.{age_of, due_in, in_hold}
use Rattle.rules.specs.Run.{later, tick, released_of, served_of, aged_stored, aged_of, stored_as}
use Rattle.rules.proofs.Holds.{idle_free}
use Rattle.running.specs.Rests.{Rests}

-- ── The clock ──

pub lasts_law : (clock v s e : ℕ) → e < v - age_of clock s - 1 → age_of (tick (later clock e)) s < v
lasts_law clock v s e k = omega arith

pub due_of_sum : (clock n e : ℕ) → clock < 2 ^ 32 → e < due_in clock (later clock n) → e < n
due_of_sum clock n e h k = omega arith

later_tick : (clock e : ℕ) → later (tick clock) e ≡ later clock (e + 1)
later_tick clock e = omega arith

-- one slot on, the time to a clock value that is not reached is one less
pub due_later : (clock l : ℕ) → clock < 2 ^ 32 → 0 < due_in clock l → due_in (tick clock) l ≡ due_in clock l - 1
due_later clock l h k = omega arith

-- so of two, the nearer stays the nearer
pub nearer_later : (clock a b : ℕ) → clock < 2 ^ 32 → 0 < due_in clock a → due_in clock a ≤ due_in clock b → due_in (tick clock) a ≤ due_in (tick clock) b
nearer_later clock a b h k l = omega (arith, due_later clock a h k, due_later clock b h (omega arith))

pub due_now : (clock : ℕ) → clock < 2 ^ 32 → due_in clock clock ≡ 0
due_now clock h = omega arith

pub rests_now : (clock n : ℕ) (row : RunRow) → clock < 2 ^ 32 → 0 < n → Rests clock n row → aged_of (tick clock) row ≡ row
rests_now clock n row f h q =
    let e : later clock 0 ≡ clock = omega arith in
    rw e at (q 0 h)

pub rests_later : (clock n m : ℕ) (row : RunRow) → m < n → Rests clock n row → Rests (tick clock) m row
rests_later clock n m row h q = λ e k. rw (later_tick clock e) (q (e + 1) (omega arith))

-- ── One row ──

-- a release that is still ahead is not due
pub ahead_same : (clock : ℕ) (row : RunRow) → clock < 2 ^ 32 → 0 < due_in clock row.next → released_of clock row ≡ row
unfolding released_of
ahead_same clock row h k =
    let w : row.next ≡ clock → ⊥ = λ e. omega (arith, due_now clock h, rw e at k) in
    simp (ne_eqb _ _ w)

-- the stored value does not lapse, nor does the sample of a job in hand
pub aged_same : (clock : ℕ) (row : RunRow) → aged_stored clock row.planned.validity row.stored ≡ row.stored → ((row.left ≡ 0 → ⊥) → cond (leb row.planned.validity (age_of clock row.sample)) true row.lapsed ≡ row.lapsed) → aged_of clock row ≡ row
unfolding aged_of
aged_same clock row s h = by_left row.left refl
  where
    by_left : (n : ℕ) → row.left ≡ n → aged_of clock row ≡ row
    by_left zero e = simp (eq-eqb _ _ e, s)
    by_left (suc n) e =
        let z : row.left ≡ 0 → ⊥ = λ w. omega arith in
        simp (ne_eqb _ _ z, s, h z)

-- no job is in hand
pub aged_idle : (clock : ℕ) (row : RunRow) → aged_stored clock row.planned.validity row.stored ≡ row.stored → row.left ≡ 0 → aged_of clock row ≡ row
aged_idle clock row s e = aged_same clock row s (λ n. absurd (n e))

-- or its sample has lapsed already
pub aged_lapsed : (clock : ℕ) (row : RunRow) → aged_stored clock row.planned.validity row.stored ≡ row.stored → row.lapsed ≡ true → aged_of clock row ≡ row
aged_lapsed clock row s e =
    aged_same clock row s (λ n. stays (leb row.planned.validity (age_of clock row.sample)) row.lapsed e)
  where
    stays : (b l : Bool) → l ≡ true → cond b true l ≡ l
    stays true l e = sym e
    stays false l e = refl

-- one unit less
abbrev pub less_of : RunRow → RunRow
less_of row =
    record { planned = row.planned; next = row.next; left = row.left - 1; sample = row.sample; lapsed = row.lapsed; stored = row.stored; skips = row.skips }

pub served_less : (row : RunRow) → 1 < row.left → served_of row ≡ less_of row
unfolding served_of
served_less row h = simp (lt-ltb _ _ h)

pub rests_less : (clock n : ℕ) (row : RunRow) → 1 < row.left → Rests clock n row → Rests clock n (less_of row)
unfolding aged_of
rests_less clock n row h q =
    let z : row.left ≡ 0 → ⊥ = λ w. omega arith in
    λ e k. aged_same _ (less_of row) (ap (λ (r : RunRow). r.stored) (q e k)) (λ w. rw (ne_eqb _ _ z) at (ap (λ (r : RunRow). r.lapsed) (q e k)))

-- nothing is left of a job behind its last unit, so it is in no hold
pub served_free : (row : RunRow) → row.left ≤ 1 → in_hold (served_of row) ≡ false
unfolding served_of
served_free row h = rw (le-ltb 1 row.left h) (idle_free _ refl)

pub served_next : (row : RunRow) → (served_of row).next ≡ row.next
unfolding served_of
served_next row = step (ltb 1 row.left)
  where
    step : (b : Bool)
        → (cond {A = RunRow} b
        (record { planned = row.planned; next = row.next; left = row.left - 1; sample = row.sample; lapsed = row.lapsed; stored = row.stored; skips = row.skips })
        (record { planned = row.planned; next = row.next; left = 0; sample = 0; lapsed = false; stored = stored_as row.lapsed row.sample; skips = row.skips })).next
        ≡ row.next
    step true = refl
    step false = refl
