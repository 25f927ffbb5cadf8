-- The search for the smallest t that balances, over two numbers for each object ahead: its cost, and its pace, which is its period as a factor.
-- It names no rows: whoever can tell the objects ahead by these numbers, and has a bound, searches by it. Assumes nothing.
use Rattle.std.specs.Prelude.{ℕ, ◌+◌, ◌-◌, ◌*◌, ◌/◌, ◌≤◌, ◌<◌, min, ◌≡◌, List, length, get_or, sum_by}
use Rattle.std.specs.Prelude as answer
use Rattle.std.proofs.Math.Option.{Option, none, some}
use Rattle.planning.specs.declared.search.Ahead.{Ahead}

-- a period as a factor, which makes of a division by the period one by 2 ^ 40. Above 1,000,000 one period is as good as another: no search goes on
-- for longer
abbrev pub pace_of : ℕ → ℕ
pace_of p = 1099511627776 / min p 1000000 + 1

-- what an object ahead brings within t slots besides one job
abbrev pub again : ℕ → Ahead → ℕ
again t o = (t - 1) * o.pace / 1099511627776 * o.cost

-- what is needed within t slots, of which `start` is needed in any case
abbrev pub need_again : List Ahead → ℕ → ℕ → ℕ
need_again os start t = start + sum_by (again t) os

-- a number that is x up to the bound, and above the bound no more than x
pub record UpTo (bound x r : ℕ) : Type 0 where
  pub under : r ≤ x
  pub same : r ≤ bound → r ≡ x

-- no object, in a place that is not in use
abbrev pub no_ahead : Ahead
no_ahead = record { pace = 0; cost = 0; calm = 0 }

-- no pace is above that of a period of 1
abbrev pub Low : List Ahead → Type 0
Low os = (k : ℕ) → k < length os → (get_or os k no_ahead).pace ≤ 1099511627777

-- the calms go up
abbrev pub Rising : List Ahead → Type 0
Rising os = (j k : ℕ) → j ≤ k → k < length os → (get_or os j no_ahead).calm ≤ (get_or os k no_ahead).calm

-- what makes a search right and keeps its sums small: the paces are low, and within the calm of an object neither it nor one behind it brings a
-- second job
pub record Steady (os : List Ahead) : Type 0 where
  pub low : Low os
  pub once : (k t : ℕ) → k < length os → t ≤ (get_or os k no_ahead).calm → t ≤ 1000000 → again t (get_or os k no_ahead) ≡ 0
  pub rising : Rising os

-- with the period of an object behind it known too
abbrev pub lower : ℕ → Ahead → Ahead
lower p o = record { pace = o.pace; cost = o.cost; calm = min o.calm p }

-- the first r are as many as bring a second job within t slots, or more
pub record Reached (os : List Ahead) (t r : ℕ) : Type 0 where
  pub up_to : r ≤ length os
  pub behind : r < length os → t ≤ (get_or os r no_ahead).calm

-- what a search answers: the rules' option, as the code has it
abbrev pub found_of : Option ℕ → answer.Option ℕ
found_of (some t) = answer.Some t
found_of none = answer.None
