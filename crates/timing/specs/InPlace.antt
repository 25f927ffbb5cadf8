-- What the benchmark's entry answers: the checked slots one after the other, and the numbers of one row. Assumes nothing.
use Rattle.std.specs.Prelude.{ℕ, ◌%◌, List, [], ◌∷◌, get_or}
use Rattle.rules.specs.declared.Run.{Run}
use Rattle.rules.specs.Run.{no_run_row, is_stolen, stepped_of}
use Rattle.timing.specs.declared.Seen.{Seen}

-- one checked slot for each byte; what a slot refuses it leaves as it is
unfoldable pub in_place_of : Run → List ℕ → Run
in_place_of run [] = run
in_place_of run (s ∷ ss) = in_place_of (stepped_of run (is_stolen s)).run ss

-- the clock, and the numbers of the row at `place`, which is counted modulo 64
abbrev pub seen_of : Run → ℕ → Seen
seen_of run place =
    let row = get_or run.rows (place % 64) no_run_row in
    record { clock = run.clock; next = row.next; left = row.left; sample = row.sample; skips = row.skips }
