-- The slots of a list one after the other: how far `advance_rows` has come, and the next slot. Assumes nothing.
use Rattle.std.proofs.Common.{◌≡◌, ℕ, zero, suc, ◌+◌, ◌^◌, ◌<◌, ◌≤◌, Bool, Option, is_some, unwrap_or, List, ◌++◌, length, get_or, take, drop, replicate, true, sym, refl, ◌∙◌, add-one, arith, drop_of_length-le, drop-cons}
use Rattle.std.specs.List.{position}
use Rattle.rules.specs.declared.RunRow.{RunRow}
use Rattle.rules.specs.declared.Run.{Run}
use Rattle.rules.specs.RunState.{in_hold, one_hold, used_rows}
use Rattle.rules.specs.Run.{tick, is_stolen, step_one, step_two, step_three, slot_of, slots_of}
use Rattle.running.specs.declared.outlook.Outlook.{Outlook}
use Rattle.running.specs.Outlook.{Between}
use Rattle.running.proofs.Ahead.{due_now}
use Rattle.running.proofs.EachRow.{slot_is}
use Rattle.running.proofs.Front.{front_start}

get_d_replicate : (n i x : ℕ) → i < n → get_or (replicate n x) i 0 ≡ x
get_d_replicate zero i x h = absurd (omega arith)
get_d_replicate (suc n) zero x h = refl
get_d_replicate (suc n) (suc i) x h = get_d_replicate n i x (omega arith)

-- every row has to be looked at
pub between_none : (run : Run) → run.count ≤ 64 → length run.rows ≡ 64 → run.clock < 2 ^ 32 → one_hold (used_rows run) ≡ true → (held : Option ℕ) (holding : Bool) (first : ℕ) → held ≡ position in_hold (used_rows run) → holding ≡ is_some held → first ≡ unwrap_or held 0 → Between (record { clock = run.clock; count = run.count; due = run.clock; lapse = run.clock; holding = holding; first = first }) run.rows (replicate 64 run.clock)
between_none run f l h o held holding first e t z =
    record {
      kept = record {
        few = f;
        long = l;
        wide = refl;
        sized = h;
        watched = λ j d k. rw (get_d_replicate 64 j run.clock (omega arith)) (record { soon = omega arith; rests = λ e k. absurd (omega (arith, k, due_now run.clock h)) });
        front = front_start run.count run.rows (omega (arith, l)) o held holding first e t z;
      };
      undue = λ j d k. omega (arith, due_now run.clock h);
    }

abbrev pub run_at : Outlook → List RunRow → Run
run_at ahead rows = record { clock = ahead.clock; count = ahead.count; rows = rows }

-- what is left of the list makes of the run what the whole list makes of the start
pub record Going (start : Run) (list : List ℕ) (ahead : Outlook) (rows : List RunRow) (lapses : List ℕ) (k : ℕ) : Type 0 where
  pub between : Between ahead rows lapses
  pub on : slots_of (run_at ahead rows) (drop k list) ≡ slots_of start list

one_slot : (run : Run) (list : List ℕ) (k : ℕ) → k < length list → slots_of run (drop k list) ≡ slots_of (slot_of run (is_stolen (get_or list k 0))) (drop (k + 1) list)
unfolding slots_of
one_slot run list k h = rw (add-one, drop-cons list k 0 h)

slot_run : (clock count : ℕ) (stolen : Bool) (rows rows₁ rows₂ rows₃ : List RunRow) → rows₁ ≡ step_one clock (take count rows) ++ drop count rows → rows₂ ≡ step_two stolen (take count rows₁) ++ drop count rows₁ → rows₃ ≡ step_three (tick clock) (take count rows₂) ++ drop count rows₂ → record { clock = tick clock; count = count; rows = rows₃ } ≡ slot_of (record { clock = clock; count = count; rows = rows }) stolen
unfolding slot_of
slot_run clock count stolen rows rows₁ rows₂ rows₃ a b c = rw (slot_is clock count stolen rows rows₁ rows₂ rows₃ a b c)

pub going_on : (due done : Outlook) {start : Run} {list : List ℕ} {ahead next : Outlook} {rows rows₁ rows₂ rows₃ : List RunRow} {lapses lapses₃ : List ℕ} {k : ℕ} → Going start list ahead rows lapses k → k < length list → rows₁ ≡ step_one ahead.clock (take ahead.count rows) ++ drop ahead.count rows → (due.clock ≡ ahead.clock) × (due.count ≡ ahead.count) → rows₂ ≡ step_two (is_stolen (get_or list k 0)) (take due.count rows₁) ++ drop due.count rows₁ → (done.clock ≡ due.clock) × (done.count ≡ due.count) → rows₃ ≡ step_three (tick done.clock) (take done.count rows₂) ++ drop done.count rows₂ → (next.clock ≡ tick done.clock) × (next.count ≡ done.count) → Between next rows₃ lapses₃ → Going start list next rows₃ lapses₃ (k + 1)
going_on due done {list = list} {ahead = ahead} {rows = rows} {rows₁ = rows₁} {rows₂ = rows₂} {rows₃ = rows₃} {k = k} g h a p b q c r w =
    let s = is_stolen (get_or list k 0) in
    record {
      between = w;
      on = rw (r.0, r.1, q.0, q.1, p.0, p.1, slot_run ahead.clock ahead.count s rows rows₁ rows₂ rows₃ a (rw p.1 at b) (rw (q.0, q.1, p.0, p.1) at c)) (sym (one_slot (run_at ahead rows) list k h) ∙ g.on);
    }

-- the end of the list
pub slots_end : (run end : Run) (list : List ℕ) (k : ℕ) → length list ≤ k → slots_of run (drop k list) ≡ end → run ≡ end
unfolding slots_of
slots_end run end list k h e = rw (drop_of_length-le list {i = k} h) at e
