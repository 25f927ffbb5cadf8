-- The proof of the promises on the page Promises.antt, each by the theorem of the file that proves it.
-- Assumes nothing.
use Rattle.std.specs.Prelude.{ℕ, ◌^◌, ◌<◌, ◌≡◌, true, List}
use Rattle.rules.specs.declared.Table.{Table}
use Rattle.rules.specs.declared.Run.{Run}
use Rattle.rules.specs.Answers.{Accepted}
use Rattle.rules.specs.StoredTable.{read_of}
use Rattle.rules.specs.RunState.{acceptable}
use Rattle.rules.specs.Deadlines.{plan_of}
use Rattle.rules.specs.Run.{start_of, stepped_of}
use Rattle.promises.proofs.OnlyOrder.{order_is, only_order}
use Rattle.promises.specs.HoldsOfOne.{plan_is_01, step_is_01}
use Rattle.promises.proofs.PlanExactly.{each_planned, planned_or_10, ten_exactly}
use Rattle.promises.proofs.StartExactly.{start_exactly}
use Rattle.promises.proofs.StartStored.{start_read_law, first_of_record, stored_exactly, started_or_refused}
use Rattle.promises.specs.ReadExactly.{reads_13_exactly, reads_14_exactly}
use Rattle.promises.specs.Runs.{Fits}
use Rattle.promises.specs.Slots.{slot_used}
use Rattle.promises.proofs.Decode.{accept_size, any_history, slot_keeps}
use Rattle.promises.proofs.Calls.{calls_are_slots}
use Rattle.promises.proofs.InHistory.{kept_in_history}
use Rattle.promises.proofs.FromAny.{row_due, row_reads, row_promised}
use Rattle.promises.proofs.Starts.{start_history, start_accepted, start_every_run, start_promised}
use Rattle.promises.proofs.SameAhead.{same_tables}
use Rattle.promises.specs.Promises.{OfTable, OfStart, OfStored, OfRun, Promises}

of_table : (table : Table) → OfTable table
of_table table = record {
  order = order_is table.rows table.count;
  only_order = only_order table.rows table.count;
  deadline = each_planned table;
  planned_or_10 = planned_or_10 table;
  ten_exactly = ten_exactly table;
  start_exactly = start_exactly (plan_of table);
}

of_start : (table : Table) (clock : ℕ) (firsts : List ℕ) → (start_of table clock firsts).verdict ≡ Accepted → clock < 2 ^ 32
    → OfStart table clock firsts
of_start table clock firsts accepted low = record {
  never_13 = start_accepted table clock firsts accepted low;
  tie = start_history table clock firsts accepted low;
  in_every_run = start_every_run table clock firsts accepted low;
  demand_3 = λ stolen b e rest given i o place. start_promised table clock firsts accepted low stolen i o place b e rest given;
}

of_stored : (s : List ℕ) (clock : ℕ) → OfStored s clock
of_stored s clock = record {
  as_read = start_read_law (read_of s) clock;
  first_release = first_of_record s;
  start_exactly = stored_exactly (read_of s) clock;
  started_or_refused = started_or_refused s clock;
}

of_run : (run : Run) → Fits run → acceptable run ≡ true → OfRun run
unfolding stepped_of
of_run run w ok = record {
  slot = λ stolen. let s = slot_keeps run w ok stolen in (rw ok, slot_used run stolen (accept_size run w ok), s.0, s.1);
  calls = calls_are_slots run w ok;
  tie = any_history run w ok;
  fresh_is_true = row_reads run w ok;
  due = row_due run w ok;
  demand_3 = λ planned stolen b e rest given i row place. row_promised run w ok stolen i row place planned b e rest given;
}

pub kept : Promises
kept = record {
  of_table = of_table;
  of_start = of_start;
  of_stored = of_stored;
  of_run = of_run;
  reads_13 = reads_13_exactly;
  reads_14 = reads_14_exactly;
  plan_01 = plan_is_01;
  step_01 = step_is_01;
  same_ahead = same_tables;
  in_history = kept_in_history;
}
