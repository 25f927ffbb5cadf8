-- True instants and their clock values, which are their rests by 2^32: all the arithmetic of 2^32 there is.
-- Assumes nothing.
use Rattle.std.specs.Prelude.{ℕ, suc, ◌+◌, ◌-◌, ◌%◌, ◌^◌, ◌≤◌, ◌<◌, ◌≡◌, Bool, true, false}
use Rattle.std.proofs.Common.{arith}
use Rattle.rules.specs.RunState.{age_of, due_in}
use Rattle.rules.specs.Run.{later, tick}
use Rattle.promises.specs.Encode.{from_of, sampled_in}

pub wrap_later : (n p : ℕ) → later (n % 2 ^ 32) p ≡ (n + p) % 2 ^ 32
wrap_later n p = omega arith

pub wrap_tick : (now : ℕ) → tick (now % 2 ^ 32) ≡ suc now % 2 ^ 32
wrap_tick now = omega arith

-- instants that are near each other are told apart by their clock values
pub wrap_same : (now n : ℕ) → now ≤ n → n < now + 1000000 → n % 2 ^ 32 ≡ now % 2 ^ 32 → n ≡ now
wrap_same now n l u e = omega arith

-- an age below 2^32, and a release less than that ahead, are the true ones
pub age_true : (now p : ℕ) → p ≤ now → now < p + 2 ^ 32 → age_of (now % 2 ^ 32) (p % 2 ^ 32) ≡ now - p
age_true now p l u = omega arith

-- so a sample whose true age has not reached the validity v is younger than v by the clock too
pub young_true : (now p v : ℕ) → p ≤ now → now - p < v → v ≤ 1000000 → age_of (now % 2 ^ 32) (p % 2 ^ 32) < v
young_true now p v l h u = omega arith

pub due_true : (now n : ℕ) → now ≤ n → n < now + 1000000 → due_in (now % 2 ^ 32) (n % 2 ^ 32) ≡ n - now
due_true now n l u = omega arith

-- ── The instant at which a run is handed in ──

pub from_clock : (clock : ℕ) → clock < 2 ^ 32 → from_of clock % 2 ^ 32 ≡ clock
from_clock clock l = omega arith

-- a release counted from it, and a sample counted back from it, are where their clock values say
pub from_due : (clock n : ℕ) → clock < 2 ^ 32 → n < 2 ^ 32 → (from_of clock + due_in clock n) % 2 ^ 32 ≡ n
from_due clock n l u = omega arith

pub from_sampled : (clock s : ℕ) (lapsed : Bool) → clock < 2 ^ 32 → s < 2 ^ 32 → sampled_in clock lapsed s % 2 ^ 32 ≡ s
from_sampled clock s true l u = omega arith
from_sampled clock s false l u = omega arith

pub sampled_past : (clock s : ℕ) (lapsed : Bool) → sampled_in clock lapsed s ≤ from_of clock
sampled_past clock s true = omega arith
sampled_past clock s false = omega arith
