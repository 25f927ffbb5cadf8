-- What a slot of the rules does to the rows of a run: those in use change place by place, and the others stay.
-- Assumes that the count is at most the number of rows.
use Rattle.std.specs.Prelude.{◌≤◌, ℕ, suc, ◌≡◌, refl, Bool, true, false, List, [], ◌∷◌, length, drop}
use Rattle.std.proofs.Common.{ap, ◌∙◌, length-take-le, take_at}
use Rattle.std.proofs.lemmas.List.{length-map}
use Rattle.rules.specs.declared.RunRow.{RunRow}
use Rattle.rules.specs.declared.Run.{Run}
use Rattle.rules.specs.RunState.{in_hold, any, used_rows}
use Rattle.rules.specs.Run.{tick, released_of, step_one, served_of, serve_first, may_work, step_two, aged_of, slot_rows, slot_of}
use Rattle.theory.proofs.Cases.{cond_holds}

first_length : (p : RunRow → Bool) (rows : List RunRow) → length (serve_first p rows) ≡ length rows
unfolding serve_first
first_length p [] = refl
first_length p (r ∷ rs) =
    cond_holds (λ l. length l ≡ suc (length rs)) (p r) (served_of r ∷ rs) (r ∷ serve_first p rs)
    (λ z. refl) (λ z. ap suc (first_length p rs))

two_length : (stolen : Bool) (rows : List RunRow) → length (step_two stolen rows) ≡ length rows
two_length true rows = refl
two_length false rows = first_length (may_work (any in_hold rows)) rows

slot_length : (clock : ℕ) (stolen : Bool) (rows : List RunRow) → length (slot_rows clock stolen rows) ≡ length rows
slot_length clock stolen rows =
    length-map (step_two stolen (step_one clock rows)) (aged_of (tick clock))
    ∙ (two_length stolen (step_one clock rows) ∙ length-map rows (released_of clock))

pub slot_used : (run : Run) (stolen : Bool) → run.count ≤ length run.rows
    → used_rows (slot_of run stolen) ≡ slot_rows run.clock stolen (used_rows run)
unfolding slot_of
slot_used run stolen size =
    take_at (slot_rows run.clock stolen (used_rows run)) (drop run.count run.rows) run.count
    (slot_length run.clock stolen (used_rows run) ∙ length-take-le run.count run.rows size)
