-- When a reading is refused: with 13 exactly if the state is not acceptable, with 14 exactly if it is and no row in use has the id.
-- Assumes nothing.
use Rattle.std.specs.Prelude.{ℕ, ◌≡◌, refl, ◌↔◌, ◌≢◌, Bool, true, false, cond, List, [], ◌∷◌, eqb}
use Rattle.std.proofs.Common.{sym, ap, ◌∙◌, arith, ne_eqb}
use Rattle.std.proofs.lemmas.Bool.{eqb-false}
use Rattle.rules.specs.declared.RunRow.{RunRow}
use Rattle.rules.specs.declared.Run.{Run}
use Rattle.rules.specs.declared.Stored.{Stored}
use Rattle.rules.specs.declared.Stored.TheVariants.{Empty, Held, Lapsed}
use Rattle.rules.specs.Readings.{Reading}
use Rattle.rules.specs.Readings.{Refused}
use Rattle.rules.specs.declared.Refusal.{Refusal}
use Rattle.rules.specs.declared.Refusal.TheVariants.{NotRunState, NoSuchId}
use Rattle.rules.specs.RunState.{used_rows, acceptable}
use Rattle.rules.specs.Run.{value_of, read_from, reading_of}
use Rattle.rules.specs.Refusals.{◌at_place◌, reading_told}
use Rattle.rules.proofs.Lists.{Every}
use Rattle.rules.proofs.Told.{reading_settles}

-- no row has the id
abbrev pub NoneHas : ℕ → List RunRow → Type 0
NoneHas id rows = Every (λ row. row.planned.id ≢ id) rows

-- a value is no refusal
value_no_refusal : (clock : ℕ) (s : Stored) (r : Refusal) (k : ℕ) → value_of clock s ≡ Refused r k → ⊥
value_no_refusal clock Empty r k e = let z : ◌≡◌ {A = ℕ} 0 1 = cc in omega arith
value_no_refusal clock Lapsed r k e = let z : ◌≡◌ {A = ℕ} 0 1 = cc in omega arith
value_no_refusal clock (Held s) r k e = let z : ◌≡◌ {A = ℕ} 0 1 = cc in omega arith

-- rows that are read refuse with 14 alone, and only where none of them has the id
read_refused : (clock id : ℕ) (rows : List RunRow) (r : Refusal) (k : ℕ) → read_from clock id rows ≡ Refused r k
    → (r ≡ NoSuchId) × NoneHas id rows
unfolding read_from
read_refused clock id [] r k e = (cc, tt)
read_refused clock id (row ∷ rows) r k e = step (eqb row.planned.id id) refl (read_refused clock id rows r k) e
  where
    step : (b : Bool) → eqb row.planned.id id ≡ b
        → (read_from clock id rows ≡ Refused r k → (r ≡ NoSuchId) × NoneHas id rows)
        → cond b (value_of clock row.stored) (read_from clock id rows) ≡ Refused r k → (r ≡ NoSuchId) × NoneHas id (row ∷ rows)
    step true q ih e = absurd (value_no_refusal clock row.stored r k e)
    step false q ih e = let h = ih e in (h.0, (eqb-false row.planned.id id q, h.1))

none_read : (clock id : ℕ) (rows : List RunRow) → NoneHas id rows → read_from clock id rows ≡ Refused NoSuchId 0
unfolding read_from
none_read clock id [] n = refl
none_read clock id (row ∷ rows) n = rw (ne_eqb row.planned.id id n.0) (none_read clock id rows n.1)

-- ── The promise ──

module _ (run : Run) (id : ℕ) where
  -- what a reading of an acceptable state, and of another, answers
  of_state : (b : Bool) → acceptable run ≡ b → reading_of run id ≡ cond b (read_from run.clock id (used_rows run)) (Refused NotRunState 0)
  unfolding reading_of
  of_state b e = rw e

  pub reads_13_exactly : ((reading_told (reading_of run id)).refusal ≡ 13 at_place 0) ↔ (acceptable run ≡ false)
  reads_13_exactly = (λ e. step (acceptable run) refl (reading_settles (reading_of run id) e), λ e. ap (λ (x : Reading). (reading_told x).refusal) (of_state false e))
    where
      step : (b : Bool) → acceptable run ≡ b → reading_of run id ≡ Refused NotRunState 0 → b ≡ false
      step false q e = refl
      step true q e =
          let h = read_refused run.clock id (used_rows run) NotRunState 0 (sym (of_state true q) ∙ e) in
          let z : ◌≡◌ {A = ℕ} 0 1 = cc h.0 in absurd (omega arith)

  pub reads_14_exactly : ((reading_told (reading_of run id)).refusal ≡ 14 at_place 0) ↔ ((acceptable run ≡ true) × NoneHas id (used_rows run))
  reads_14_exactly = (
    λ e. step (acceptable run) refl (reading_settles (reading_of run id) e),
    λ p. ap (λ (x : Reading). (reading_told x).refusal) (of_state true p.0 ∙ none_read run.clock id (used_rows run) p.1),
  )
    where
      step : (b : Bool) → acceptable run ≡ b → reading_of run id ≡ Refused NoSuchId 0 → (b ≡ true) × NoneHas id (used_rows run)
      step false q e = let z : ◌≡◌ {A = ℕ} 0 1 = cc (of_state false q) in absurd (omega arith)
      step true q e = (refl, (read_refused run.clock id (used_rows run) NoSuchId 0 (sym (of_state true q) ∙ e)).1)
