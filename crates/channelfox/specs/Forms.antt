-- The C forms of answers, stored tables and runs. Assumes nothing.
-- Enums and bools are numbers in C: a verdict is number and place (0 and 0 where accepted), a stored form its number, a stored value its
-- kind and what it holds.
use Rattle.std.specs.Prelude.{ℕ, Bool, true, cond, not, ◌&&◌, ◌||◌, List, [], ◌∷◌, map, eqb, leb, Option, Some, None}
use Rattle.rules.specs.declared.Form.{Form}
use Rattle.rules.specs.declared.Form.TheVariants.{One, Two}
use Rattle.rules.specs.declared.Part.{Part}
use Rattle.rules.specs.Answers.{Planned, ReadStored, ReadTable, Started, Stepped, Verdict, Refused, Written}
use Rattle.rules.specs.Readings.{Reading}
use Rattle.rules.specs.Readings as reading
use Rattle.rules.specs.declared.Run.{Run}
use Rattle.rules.specs.declared.RunRow.{RunRow}
use Rattle.rules.specs.declared.Stored.{Stored}
use Rattle.rules.specs.declared.Stored.TheVariants.{Empty, Held, Lapsed}
use Rattle.rules.specs.declared.StoredTable.{StoredTable}
use Rattle.rules.specs.declared.Refusal.TheVariants.{NotRunState}
use Rattle.rules.specs.Refusals.{Told, told, reading_told}
use Rattle.rules.specs.Deadlines.{on_accepted, plan_of}
use Rattle.rules.specs.Run.{stepped_of, advanced_of, reading_of}
use Rattle.channelfox.specs.declared.CPart.{CPart}
use Rattle.channelfox.specs.declared.CPlanAnswer.{CPlanAnswer}
use Rattle.channelfox.specs.declared.CReadAnswer.{CReadAnswer}
use Rattle.channelfox.specs.declared.CReading.{CReading}
use Rattle.channelfox.specs.declared.CRun.{CRun}
use Rattle.channelfox.specs.declared.CRunAnswer.{CRunAnswer}
use Rattle.channelfox.specs.declared.CRunRow.{CRunRow}
use Rattle.channelfox.specs.declared.CStored.{CStored}
use Rattle.channelfox.specs.declared.CStoredAnswer.{CStoredAnswer}
use Rattle.channelfox.specs.declared.CVerdict.{CVerdict}
use Rattle.channelfox.specs.declared.CWritten.{CWritten}

-- ── Verdicts, tables, plans ──

abbrev pub told_form : Told → CVerdict
told_form t = record { number = t.number; place = t.place }

abbrev pub verdict_form : Verdict → CVerdict
verdict_form v = told_form (told v)

abbrev pub read_form : ReadTable → CReadAnswer
read_form a = record { verdict = verdict_form a.verdict; table = a.table }

-- a stored form is a number, and each other number is no form
abbrev pub form_number : Option Form → ℕ
form_number None = 0
form_number (Some One) = 1
form_number (Some Two) = 2

abbrev pub form_numbered : ℕ → Option Form
form_numbered n = cond (eqb n 1) (Some One) (cond (eqb n 2) (Some Two) None)

abbrev pub stored_table_form : StoredTable → CStored
stored_table_form s = record { form = form_number s.form; table = s.table; firsts = s.firsts }

abbrev pub stored_table : CStored → StoredTable
stored_table c = record { form = form_numbered c.form; table = c.table; firsts = c.firsts }

abbrev pub stored_form : ReadStored → CStoredAnswer
stored_form a = record { verdict = verdict_form a.verdict; stored = stored_table_form a.stored }

abbrev pub written_form : Written → CWritten
written_form w = record { verdict = verdict_form w.verdict; size = w.size }

abbrev pub plan_form : Planned → CPlanAnswer
plan_form p = record { verdict = verdict_form p.verdict; plan = p.plan }

-- a stored table that is read is planned, and one that is refused is refused
abbrev pub planned_stored : ReadStored → Planned
planned_stored a = on_accepted a.verdict (plan_of a.stored.table)

abbrev pub part_form : Part → CPart
part_form p = record { source = cond p.site 1 2; form = form_number p.form; start = p.start; size = p.size }

-- ── Runs ──

abbrev pub stored_kind : Stored → ℕ
stored_kind Empty = 0
stored_kind (Held s) = 1
stored_kind Lapsed = 2

abbrev pub stored_held : Stored → ℕ
stored_held Empty = 0
stored_held (Held s) = s
stored_held Lapsed = 0

abbrev pub stored_of : ℕ → ℕ → Stored
stored_of kind held = cond (eqb kind 1) (Held held) (cond (eqb kind 2) Lapsed Empty)

unfoldable pub row_form : RunRow → CRunRow
row_form r =
    record { planned = r.planned; next = r.next; left = r.left; sample = r.sample; lapsed = cond r.lapsed 1 0; stored = stored_kind r.stored; held = stored_held r.stored; skips = r.skips }

unfoldable pub row_of : CRunRow → RunRow
row_of c =
    record { planned = c.planned; next = c.next; left = c.left; sample = c.sample; lapsed = not (eqb c.lapsed 0); stored = stored_of c.stored c.held; skips = c.skips }

-- whether a C row stands for a row: `lapsed` 0 or 1, `stored` 0 to 2, and `held` 0 unless a value is held
unfoldable pub is_form : CRunRow → Bool
is_form c = leb c.lapsed 1 && leb c.stored 2 && (eqb c.held 0 || eqb c.stored 1)

abbrev pub run_form : Run → CRun
run_form run = record { clock = run.clock; count = run.count; rows = map row_form run.rows }

abbrev pub run_of : CRun → Run
run_of form = record { clock = form.clock; count = form.count; rows = map row_of form.rows }

unfoldable pub every_form : List CRunRow → Bool
every_form [] = true
every_form (c ∷ cs) = is_form c && every_form cs

abbrev pub all_forms : CRun → Bool
all_forms form = every_form form.rows

abbrev pub started_form : Started → CRunAnswer
started_form s = record { verdict = verdict_form s.verdict; run = run_form s.run }

abbrev pub stepped_form : Stepped → CRunAnswer
stepped_form s = record { verdict = verdict_form s.verdict; run = run_form s.run }

-- 13, and the run exactly as it came in
abbrev pub no_form : CRun → CRunAnswer
no_form form = record { verdict = verdict_form (Refused NotRunState 0); run = form }

unfoldable pub slot_form : CRun → Bool → CRunAnswer
slot_form form stolen = cond (all_forms form) (stepped_form (stepped_of (run_of form) stolen)) (no_form form)

unfoldable pub advance_form : CRun → List ℕ → CRunAnswer
advance_form form stolen = cond (all_forms form) (stepped_form (advanced_of (run_of form) stolen)) (no_form form)

abbrev pub reading_form : Reading → CReading
reading_form r = let t = reading_told r in record { verdict = told_form t.refusal; value = t.value; age = t.age }

unfoldable pub read_value_form : CRun → ℕ → CReading
read_value_form form id = cond (all_forms form) (reading_form (reading_of (run_of form) id)) (reading_form (reading.Refused NotRunState 0))
