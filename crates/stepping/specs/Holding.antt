-- What the check of a run state answers: whether a row is in its hold, or none where it is no run state. Assumes nothing.
use Rattle.std.specs.Prelude.{Bool, Option}
use Rattle.std.specs.Bool.{then_some}
use Rattle.rules.specs.declared.Run.{Run}
use Rattle.rules.specs.RunState.{in_hold, any, used_rows, acceptable}

abbrev pub holding_of : Run → Option Bool
holding_of run = then_some (acceptable run) (any in_hold (used_rows run))
