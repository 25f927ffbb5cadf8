-- A word: a job whose work is its cost. Assumes nothing.
use Rattle.std.specs.Prelude.{◌<◌, ◌≡◌}
use Rattle.theory.specs.Model.{State}

-- the job in hand has its cost as its work; so it is all along, where each work given comes to the cost
abbrev pub Whole : State → Type 0
Whole w = 0 < w.left → w.work ≡ w.planned.cost
