-- The way to the C form of a stored table or a run and back loses nothing, and a refused run comes back exactly as it came in. Assumes nothing.
use Rattle.std.specs.Prelude.{ℕ, zero, suc, ◌≡◌, refl, Bool, true, false, cond, not, ◌&&◌, ◌||◌, List, [], ◌∷◌, map, eqb, leb, Option, Some, None}
use Rattle.std.proofs.Common.{sym, true≢false, arith, leb-true, eqb-true}
use Rattle.rules.specs.declared.Form.{Form}
use Rattle.rules.specs.declared.Form.TheVariants.{One, Two}
use Rattle.rules.specs.declared.Run.{Run}
use Rattle.rules.specs.declared.RunRow.{RunRow}
use Rattle.rules.specs.declared.Stored.{Stored}
use Rattle.rules.specs.declared.Stored.TheVariants.{Empty, Held, Lapsed}
use Rattle.rules.specs.declared.StoredTable.{StoredTable}
use Rattle.rules.specs.RunState.{acceptable}
use Rattle.rules.specs.Run.{stepped_of, advanced_of}
use Rattle.channelfox.specs.declared.CRun.{CRun}
use Rattle.channelfox.specs.declared.CRunRow.{CRunRow}
use Rattle.channelfox.specs.Forms.{form_number, form_numbered, stored_table_form, stored_table, stored_kind, stored_held, stored_of, row_form, row_of, is_form, every_form, run_form, run_of, all_forms, no_form, slot_form, advance_form}
use Rattle.rules.proofs.Tests.{both_true}

-- a stored form, to C and back
pub form_there_and_back : (f : Option Form) → form_numbered (form_number f) ≡ f
form_there_and_back None = refl
form_there_and_back (Some One) = refl
form_there_and_back (Some Two) = refl

-- what stored bytes hold, to C and back
pub stored_table_there_and_back : (s : StoredTable) → stored_table (stored_table_form s) ≡ s
stored_table_there_and_back s = rw (form_there_and_back s.form)

mark_back : (l : Bool) → not (eqb (cond l 1 0) 0) ≡ l
mark_back true = refl
mark_back false = refl

stored_back : (s : Stored) → stored_of (stored_kind s) (stored_held s) ≡ s
stored_back Empty = refl
stored_back (Held s) = refl
stored_back Lapsed = refl

-- a row, to C and back
pub row_there_and_back : (r : RunRow) → row_of (row_form r) ≡ r
unfolding row_of row_form
row_there_and_back r = rw (mark_back r.lapsed, stored_back r.stored)

-- what stands for a row, to the row and back
mark_there : (x : ℕ) → leb x 1 ≡ true → cond (not (eqb x 0)) 1 0 ≡ x
mark_there zero h = refl
mark_there (suc zero) h = refl
mark_there (suc (suc n)) h = absurd (let z = leb-true (suc (suc n)) 1 h in omega arith)

kind_there : (k held : ℕ) → leb k 2 ≡ true → stored_kind (stored_of k held) ≡ k
kind_there zero held h = refl
kind_there (suc zero) held h = refl
kind_there (suc (suc zero)) held h = refl
kind_there (suc (suc (suc n))) held h = absurd (let z = leb-true (suc (suc (suc n))) 2 h in omega arith)

-- nothing is held beside a value that is not
only_zero : (held : ℕ) (b : Bool) → eqb held 0 ≡ b → b || false ≡ true → held ≡ 0
only_zero held true q e = eqb-true held 0 q
only_zero held false q e = absurd (true≢false (sym e))

held_there : (k held : ℕ) → leb k 2 ≡ true → eqb held 0 || eqb k 1 ≡ true → stored_held (stored_of k held) ≡ held
held_there zero held h e = sym (only_zero held (eqb held 0) refl e)
held_there (suc zero) held h e = refl
held_there (suc (suc zero)) held h e = sym (only_zero held (eqb held 0) refl e)
held_there (suc (suc (suc n))) held h e = absurd (let z = leb-true (suc (suc (suc n))) 2 h in omega arith)

pub row_back_and_there : (c : CRunRow) → is_form c ≡ true → row_form (row_of c) ≡ c
unfolding row_of row_form is_form
row_back_and_there c e =
    let a = both_true (leb c.lapsed 1 && leb c.stored 2) (eqb c.held 0 || eqb c.stored 1) e in
    let b = both_true (leb c.lapsed 1) (leb c.stored 2) a.0 in
    rw (mark_there c.lapsed b.0, kind_there c.stored c.held b.1, held_there c.stored c.held b.1 a.1)

rows_back : (cs : List CRunRow) → every_form cs ≡ true → map row_form (map row_of cs) ≡ cs
unfolding every_form
rows_back [] e = refl
rows_back (c ∷ cs) e =
    let a = both_true (is_form c) (every_form cs) e in
    rw (row_back_and_there c a.0, rows_back cs a.1)

rows_there : (rs : List RunRow) → map row_of (map row_form rs) ≡ rs
rows_there [] = refl
rows_there (r ∷ rs) = rw (row_there_and_back r, rows_there rs)

-- a run, to C and back
pub run_there_and_back : (run : Run) → run_of (run_form run) ≡ run
run_there_and_back run = rw (rows_there run.rows)

pub run_back_and_there : (form : CRun) → all_forms form ≡ true → run_form (run_of form) ≡ form
run_back_and_there form e = rw (rows_back form.rows e)

-- what is refused with 13, in form or as a run, comes back exactly as it came in
pub slot_untouched : (form : CRun) (stolen : Bool) → all_forms form ≡ false → slot_form form stolen ≡ no_form form
unfolding slot_form
slot_untouched form stolen e = rw e

pub slot_refused : (form : CRun) (stolen : Bool) → all_forms form ≡ true → acceptable (run_of form) ≡ false → slot_form form stolen ≡ no_form form
unfolding slot_form stepped_of
slot_refused form stolen e a = simp (e, a, run_back_and_there form e)

pub advance_refused : (form : CRun) (stolen : List ℕ) → all_forms form ≡ true → acceptable (run_of form) ≡ false → advance_form form stolen ≡ no_form form
unfolding advance_form advanced_of
advance_refused form stolen e a = simp (e, a, run_back_and_there form e)
