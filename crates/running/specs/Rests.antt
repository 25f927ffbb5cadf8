-- For how long the slots make nothing lapse at a row. Assumes nothing.
use Rattle.std.specs.Prelude.{◌≡◌, ℕ, ◌<◌}
use Rattle.rules.specs.declared.RunRow.{RunRow}
use Rattle.rules.specs.Run.{later, tick, aged_of}

-- at the end of none of the n slots from `clock` on does anything lapse at the row
abbrev pub Rests : ℕ → ℕ → RunRow → Type 0
Rests clock n row = (e : ℕ) → e < n → aged_of (tick (later clock e)) row ≡ row
