-- One row in one slot: the three steps together, and where they leave the row and the core as they are. Assumes nothing.
use Rattle.std.proofs.Common.{◌≡◌, ℕ, zero, suc, Bool, true, false, cond, not, ◌&&◌, ◌||◌, eqb, ltb, refl, arith, ltb-true, eq-eqb, ne_eqb, eqb-true}
use borrow.Author.Tests.{eqb-false, lt-leb, not-true}
use Rattle.rules.specs.declared.RunRow.{RunRow}
use Rattle.rules.specs.declared.Stored.{Stored}
use Rattle.rules.specs.declared.Stored.TheVariants.{Empty, Held, Lapsed}
use Rattle.rules.specs.RunState.{age_of, stored_ok}
use Rattle.rules.specs.Run.{tick, released_of, may_work, aged_stored, aged_of}
use Rattle.rules.proofs.Tests.{and_left, and_right, and_true}
use Rattle.rules.proofs.Holds.{idle_rests}
use Rattle.stepping.specs.OneRow.{worked_of, passed_of, still_free, unmoved, Quiet}

-- the steps one by one
pub passed_is : (clock : ℕ) (holding free : Bool) (row : RunRow) {after : ℕ} {r s t : RunRow} → after ≡ tick clock → r ≡ released_of clock row → s ≡ worked_of holding free r → t ≡ aged_of after s → t ≡ passed_of clock holding free row
unfolding passed_of
passed_is clock holding free row a b c d = rw (d, a, c, b)

-- where the core is taken, step 2 leaves the row as it is
pub taken_same : (holding : Bool) (row : RunRow) → worked_of holding false row ≡ row
unfolding worked_of
taken_same holding row = by_may (may_work holding row)
  where
    by_may : (may : Bool) → cond may row row ≡ row
    by_may true = refl
    by_may false = refl

-- ── Quiet rows ──

-- the slot leaves the row and the core as they are, whether or not a row is in its hold
abbrev pub Stays : ℕ → Bool → Bool → RunRow → Type 0
Stays clock holding free row = (passed_of clock holding free row ≡ row) × (still_free holding free (released_of clock row) ≡ free)

module _ (clock : ℕ) (holding : Bool) (row : RunRow) (q : Quiet clock row) where
  quiet_idle : (free : Bool) → row.left ≡ 0 → Stays clock holding free row
  unfolding passed_of released_of worked_of still_free aged_of
  quiet_idle free l =
      (simp (ne_eqb _ _ q.due, idle_rests holding row l, eq-eqb _ _ l, q.rests), simp (ne_eqb _ _ q.due, idle_rests holding row l, and_true))

  quiet_waits : (row.left ≡ 0 → ⊥) → Stays clock holding false row
  unfolding passed_of released_of still_free aged_of
  quiet_waits l = (simp (ne_eqb _ _ q.due, taken_same holding row, ne_eqb _ _ l, q.rests, q.hand l), refl)

  -- with or without work, where the core is taken
  quiet_taken : (n : ℕ) → row.left ≡ n → Stays clock holding false row
  quiet_taken zero e = quiet_idle false e
  quiet_taken (suc n) e = quiet_waits (λ z. omega arith)

-- ── The test that the code makes ──

-- a stored value that is not held, or whose age is below the validity, does not lapse
young_stays : (clock v : ℕ) (stored : Stored) → stored_ok clock v stored ≡ true → aged_stored clock v stored ≡ stored
young_stays clock v Empty h = refl
young_stays clock v Lapsed h = refl
young_stays clock v (Held s) h = simp (lt-leb _ _ (ltb-true (age_of clock s) v h))

pub unmoved_stays : (clock : ℕ) (holding free : Bool) (row : RunRow) → unmoved clock free row ≡ true → Stays clock holding free row
unfolding unmoved
unmoved_stays clock holding free row h =
    let due = not (eqb row.next clock) in
    let waits = eqb row.left 0 || not free && ltb (age_of (tick clock) row.sample) row.planned.validity in
    let kept = stored_ok (tick clock) row.planned.validity row.stored in
    let a = and_left (due && waits) kept h in
    by_work (eqb-false _ _ (not-true _ (and_left due waits a))) (young_stays _ _ _ (and_right (due && waits) kept h)) (eqb row.left 0) refl free (and_right due waits a)
  where
    never : not true ≡ true → ⊥
    never e = let z : ◌≡◌ {A = ℕ} 0 1 = cc in omega arith

    by_work : (row.next ≡ clock → ⊥) → aged_stored (tick clock) row.planned.validity row.stored ≡ row.stored → (idle : Bool) → eqb row.left 0 ≡ idle → (f : Bool) → idle || not f && ltb (age_of (tick clock) row.sample) row.planned.validity ≡ true → Stays clock holding f row
    by_work n r true e f b =
        quiet_idle clock holding row (record { due = n; rests = r; hand = λ z. absurd (z (eqb-true _ _ e)) }) f (eqb-true _ _ e)
    by_work n r false e true b = absurd (never b)
    by_work n r false e false b =
        quiet_taken clock holding row (record { due = n; rests = r; hand = λ z. simp (lt-leb _ _ (ltb-true (age_of (tick clock) row.sample) row.planned.validity b)) }) _ refl
