-- Document 01, "Numbers to hold against it": its runs, computed by one statement over a table of them.
-- Assumes nothing: the definitions are computed.
use Rattle.std.specs.Prelude.{ℕ, ◌+◌, ◌≡◌, refl, Bool, cond, List, [], ◌∷◌, map, length}
use Rattle.std.proofs.Math.Option.{Option, none, some}
use Rattle.rules.specs.declared.ObjectRow.{ObjectRow}
use Rattle.rules.specs.declared.RunRow.{RunRow}
use Rattle.rules.specs.declared.Run.{Run}
use Rattle.rules.specs.Readings.{Reading}
use Rattle.rules.specs.Readings.{Never, Stale, Fresh}
use Rattle.rules.specs.StoredTable.{table_of}
use Rattle.rules.specs.RunState.{in_hold, any, one_hold, used_rows, row_ok, row_none, every, not_in, distinct, acceptable}
use Rattle.rules.specs.Run.{start_of, released_of, step_one, served_of, serve_first, may_work, aged_of, slot_of, is_stolen, slots_of, advanced_of}
use Rattle.rules.specs.Run.{read_from, reading_of}
use Rattle.rules.specs.Numbers.{row}
use Rattle.theory.specs.Model.{State, history}
use Rattle.theory.specs.Start.{starts}
use Rattle.promises.specs.Runs.{true_age}
use Rattle.promises.specs.Encode.{start_course}
use Rattle.promises.specs.Calls.{slot_flags, stolen_by}
use Rattle.promises.specs.Calls.Call.{many_slots}

-- a table that is started, and a byte for each slot: 0, or 1 where it is stolen
pub record Given : Type 0 where
  pub rows : List ObjectRow
  pub clock : ℕ
  pub firsts : List ℕ
  pub slots : List ℕ

-- what is looked at when these slots are over: the clock, the ids of the objects that the slots went to (0 for none),
-- and of each object, in priority order, its reading, the true age of its stored value in the history, the work left and the skips
pub record Seen : Type 0 where
  pub clock : ℕ
  pub went : List ℕ
  pub readings : List Reading
  pub ages : List (Option ℕ)
  pub lefts : List ℕ
  pub skips : List ℕ

-- the id of the first row that may work
abbrev first_of : (RunRow → Bool) → List RunRow → ℕ
first_of p [] = 0
first_of p (r ∷ rs) = cond (p r) r.planned.id (first_of p rs)

abbrev worker : List RunRow → ℕ
worker rows = first_of (may_work (any in_hold rows)) rows

abbrev went_to : Run → List ℕ → List ℕ
went_to run [] = []
went_to run (s ∷ ss) = cond (is_stolen s) 0 (worker (step_one run.clock (used_rows run))) ∷ went_to (slot_of run (is_stolen s)) ss

abbrev seen : Given → Seen
seen c =
    let table = table_of c.rows in
    let from = (start_of table c.clock c.firsts).run in
    let run = (advanced_of from c.slots).run in
    let states = history (start_course table c.clock c.firsts (stolen_by (many_slots c.slots ∷ []))) (length c.slots) in
    record {
      clock = run.clock;
      went = went_to from c.slots;
      readings = map (λ (r : RunRow). reading_of run r.planned.id) (used_rows run);
      ages = map (λ (w : State). true_age (c.clock + length c.slots) w.value) states;
      lefts = map (λ (r : RunRow). r.left) (used_rows run);
      skips = map (λ (r : RunRow). r.skips) (used_rows run);
    }

-- an object row with its hold
abbrev held : ℕ → ℕ → ℕ → ℕ → ObjectRow
held i c v h = record { id = i; cost = c; validity = v; hold = h }

-- 002, Figure 2
abbrev pub figure_2 : List ObjectRow
figure_2 = row 1 2 8 ∷ row 2 2 10 ∷ row 3 2 12 ∷ []

pub record Case : Type 0 where
  pub given : Given
  pub answer : Seen

abbrev pub table : List Case
table =
    -- 002's set with first releases 2, 1, 0: slots go to objects 3, 2, 1, 1, 2, 3, and instant 6 has nothing left over
    record {
      given = record { rows = figure_2; clock = 0; firsts = 2 ∷ 1 ∷ 0 ∷ []; slots = 0 ∷ 0 ∷ 0 ∷ 0 ∷ 0 ∷ 0 ∷ [] };
      answer = record {
        clock = 6;
        went = 3 ∷ 2 ∷ 1 ∷ 1 ∷ 2 ∷ 3 ∷ [];
        readings = Fresh 4 ∷ Fresh 5 ∷ Fresh 6 ∷ [];
        ages = some 4 ∷ some 5 ∷ some 6 ∷ [];
        lefts = 0 ∷ 0 ∷ 0 ∷ [];
        skips = 0 ∷ 0 ∷ 0 ∷ [];
      };
    }
    -- (1,2), first release 0, slots 0 to 2 stolen: three skips, at 1, 2 and 3; the slot 3 ends the job of instant 0
    ∷ record {
      given = record { rows = row 1 1 2 ∷ []; clock = 0; firsts = 0 ∷ []; slots = 1 ∷ [] };
      answer = record { clock = 1; went = 0 ∷ []; readings = Never ∷ []; ages = none ∷ []; lefts = 1 ∷ []; skips = 0 ∷ [] };
    }
    ∷ record {
      given = record { rows = row 1 1 2 ∷ []; clock = 0; firsts = 0 ∷ []; slots = 1 ∷ 1 ∷ [] };
      answer = record { clock = 2; went = 0 ∷ 0 ∷ []; readings = Never ∷ []; ages = none ∷ []; lefts = 1 ∷ []; skips = 1 ∷ [] };
    }
    ∷ record {
      given = record { rows = row 1 1 2 ∷ []; clock = 0; firsts = 0 ∷ []; slots = 1 ∷ 1 ∷ 1 ∷ [] };
      answer = record { clock = 3; went = 0 ∷ 0 ∷ 0 ∷ []; readings = Never ∷ []; ages = none ∷ []; lefts = 1 ∷ []; skips = 2 ∷ [] };
    }
    -- at instant 4 the stored value is stale and nothing is left over; at 5 it is fresh, age 1
    ∷ record {
      given = record { rows = row 1 1 2 ∷ []; clock = 0; firsts = 0 ∷ []; slots = 1 ∷ 1 ∷ 1 ∷ 0 ∷ [] };
      answer = record { clock = 4; went = 0 ∷ 0 ∷ 0 ∷ 1 ∷ []; readings = Stale ∷ []; ages = some 4 ∷ []; lefts = 0 ∷ []; skips = 3 ∷ [] };
    }
    ∷ record {
      given = record { rows = row 1 1 2 ∷ []; clock = 0; firsts = 0 ∷ []; slots = 1 ∷ 1 ∷ 1 ∷ 0 ∷ 0 ∷ [] };
      answer = record { clock = 5; went = 0 ∷ 0 ∷ 0 ∷ 1 ∷ 1 ∷ []; readings = Fresh 1 ∷ []; ages = some 1 ∷ []; lefts = 0 ∷ []; skips = 3 ∷ [] };
    }
    -- (1,4) started at clock 4,294,967,295, first release 0: after one slot, clock 0, fresh, age 1
    ∷ record {
      given = record { rows = row 1 1 4 ∷ []; clock = 4294967295; firsts = 0 ∷ []; slots = 0 ∷ [] };
      answer = record { clock = 0; went = 1 ∷ []; readings = Fresh 1 ∷ []; ages = some 1 ∷ []; lefts = 0 ∷ []; skips = 0 ∷ [] };
    }
    -- request 6: (1,8), and (4,20) with h of 3, which has begun when the first is released: it keeps the core until it has done 3 units,
    -- but for the stolen slot; then the first goes ahead of its last unit
    ∷ record {
      given = record { rows = row 1 1 8 ∷ held 2 4 20 3 ∷ []; clock = 0; firsts = 1 ∷ 0 ∷ []; slots = 0 ∷ 0 ∷ 1 ∷ 0 ∷ 0 ∷ 0 ∷ [] };
      answer = record {
        clock = 6;
        went = 2 ∷ 2 ∷ 0 ∷ 2 ∷ 1 ∷ 2 ∷ [];
        readings = Fresh 5 ∷ Fresh 6 ∷ [];
        ages = some 5 ∷ some 6 ∷ [];
        lefts = 0 ∷ 0 ∷ [];
        skips = 0 ∷ 0 ∷ [];
      };
    }
    ∷ []

pub right : map (λ (c : Case). seen c.given) table ≡ map (λ (c : Case). c.answer) table
unfolding released_of served_of serve_first may_work in_hold any aged_of slot_of slots_of advanced_of read_from reading_of history starts slot_flags
    acceptable row_ok row_none every not_in distinct one_hold
right = refl
