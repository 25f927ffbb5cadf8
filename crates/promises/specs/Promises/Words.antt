-- The words of the page Promises.antt, each with the file that defines it: what a reader has to believe of them stands there.
-- Assumes nothing.

-- document 01: what goes in and what is answered
pub use Rattle.rules.specs.declared.Table.{Table}
pub use Rattle.rules.specs.declared.Run.{Run}
pub use Rattle.rules.specs.declared.PlanRow.{PlanRow}
pub use Rattle.rules.specs.declared.RunRow.{RunRow}
pub use Rattle.rules.specs.declared.Stored.TheVariants.{Held}
pub use Rattle.rules.specs.Answers.{Accepted}
-- the number and the place that an answer tells
pub use Rattle.rules.specs.Refusals.{Told, ◌at_place◌, told, reading_told}
-- its checks, its plan, when a run state is acceptable, and the run
pub use Rattle.rules.specs.StoredTable.{no_row, table_verdict, count_of, form_of, row_of, first_at, read_of}
pub use Rattle.rules.specs.Deadlines.{no_plan_row, plan_of}
pub use Rattle.rules.specs.RunState.{used_rows, acceptable}
pub use Rattle.rules.specs.Run.{tick, start_of, begun_of, released_of, step_one, step_two, step_three, slot_of, stepped, stepped_of}
pub use Rattle.rules.specs.Order.{firsts_in_order}
pub use Rattle.rules.specs.Run.{start_stored_of, reading_of, true_reading}
-- the order, the deadline, what is planned, what was before request 6, and the grounds of an answer
pub use Rattle.promises.specs.OnlyOrder.{Ordered}
pub use Rattle.promises.specs.Exactly.{FirstWithout}
pub use Rattle.promises.specs.Plans.{PlannedRows}
pub use Rattle.rules.proofs.Lists.{Every}
pub use Rattle.promises.specs.HoldsOfOne.{HoldsOne, plan01, step01}
pub use Rattle.promises.specs.PlanExactly.{ordered, plans_in, places_in, IdsDiffer, PlannedBetween}
pub use Rattle.promises.specs.StartExactly.{GroundOf}
pub use Rattle.promises.specs.StartStored.{StoredGround, record_at}
pub use Rattle.promises.specs.ReadExactly.{NoneHas}
-- the run after so many slots, calls, and objects of a run
pub use Rattle.promises.specs.Runs.{run_after, Fits, run_row, plans, DueAt, NothingLeft, RunObject, going_on, objects_in, IsRelease}
pub use Rattle.promises.specs.Runs.{true_age}
pub use Rattle.promises.specs.Calls.{Call, calls_of, stolen_by, slots_in}
-- the history, which is the run in true time, what it looks like in 32 bits, and the states that a run is handed in with
pub use Rattle.theory.specs.Model.{Course, history, state, plans_of, Quiet, Unstolen, Acceptable}
pub use Rattle.promises.specs.Encode.{object_of, encode_run, spare, start_course, from_of, beyond, course_of}
pub use Rattle.promises.specs.InHistory.{KeptInHistory}
