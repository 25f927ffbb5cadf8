-- What `advance` knows of the slots ahead, between two slots and within one. Assumes nothing.
use Rattle.std.specs.Prelude.{◌≡◌, ℕ, ◌^◌, ◌<◌, ◌≤◌, Bool, true, false, ◌&&◌, ◌==◌, List, length, slice_index_or}
use Rattle.rules.specs.declared.RunRow.{RunRow}
use Rattle.rules.specs.RunState.{due_in, in_hold}
use Rattle.rules.specs.Run.{tick}
use Rattle.running.specs.declared.outlook.Outlook.{Outlook}
use Rattle.running.specs.Rests.{Rests}

-- no row is due before the clock value `due`
abbrev pub AllUndue : ℕ → ℕ → ℕ → List RunRow → Type 0
AllUndue clock due count rows = (j : ℕ) (d : RunRow) → j < count → due_in clock due ≤ due_in clock (slice_index_or rows j d).next

-- nothing lapses at the row before the clock value `own`, which is not before `lapse`
pub record Watch (clock lapse own : ℕ) (row : RunRow) : Type 0 where
  pub soon : due_in clock lapse ≤ due_in clock own
  pub rests : Rests clock (due_in clock own) row

abbrev pub AllIdle : ℕ → List RunRow → Type 0
AllIdle n rows = (i : ℕ) (d : RunRow) → i < n → (slice_index_or rows i d).left ≡ 0

-- the row `first` is in its hold and no other, or none is and no row before `first` has work
pub record Front (holding : Bool) (count first : ℕ) (rows : List RunRow) : Type 0 where
  pub held : (i : ℕ) (d : RunRow) → i < count → in_hold (slice_index_or rows i d) ≡ holding && i == first
  pub within : holding ≡ true → first < count
  pub idle : holding ≡ false → AllIdle first rows

-- what holds at all times
pub record Kept (clock count : ℕ) (rows : List RunRow) (lapses : List ℕ) (lapse : ℕ) (holding : Bool) (first : ℕ) : Type 0 where
  pub few : count ≤ 64
  pub long : length rows ≡ 64
  pub wide : length lapses ≡ 64
  pub sized : clock < 2 ^ 32
  pub watched : (j : ℕ) (d : RunRow) → j < count → Watch clock lapse (slice_index_or lapses j 0) (slice_index_or rows j d)
  pub front : Front holding count first rows

-- before the releases of a slot
pub record Between (ahead : Outlook) (rows : List RunRow) (lapses : List ℕ) : Type 0 where
  pub kept : Kept ahead.clock ahead.count rows lapses ahead.lapse ahead.holding ahead.first
  pub undue : AllUndue ahead.clock ahead.due ahead.count rows

-- behind them: no row is due before `due` from the next slot on
pub record Within (ahead : Outlook) (rows : List RunRow) (lapses : List ℕ) : Type 0 where
  pub kept : Kept ahead.clock ahead.count rows lapses ahead.lapse ahead.holding ahead.first
  pub undue : AllUndue (tick ahead.clock) ahead.due ahead.count rows
