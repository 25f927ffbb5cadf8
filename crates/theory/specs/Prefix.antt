-- Words: no holds from a place on, the first objects alone, and two courses that give them the same. Assumes nothing.
use Rattle.std.specs.Prelude.{ℕ, ◌≤◌, ◌<◌, ◌≡◌, List, length, take}
use Rattle.theory.specs.Model.{Object, object}
use Rattle.theory.specs.Model.{Course}

-- every hold from place k on is at most 1
abbrev pub Unheld : ℕ → List Object → Type 0
Unheld k os = (i : ℕ) → k ≤ i → i < length os → (object os i).hold ≤ 1

-- the course with the first k objects alone
abbrev pub first_of : ℕ → Course → Course
first_of k c = record { from = c.from; begin = take k c.begin; works = c.works; stolen = c.stolen }

-- two courses begin alike at the places below k, and the same is given there, and stolen, in the slots before t
pub record SameGiven (k t : ℕ) (c c' : Course) : Type 0 where
  pub from_same : c.from ≡ c'.from
  pub begin_same : take k c.begin ≡ take k c'.begin
  pub works_same : (i u : ℕ) → i < k → u < t → c.works i u ≡ c'.works i u
  pub stolen_same : (u : ℕ) → u < t → c.stolen u ≡ c'.stolen u
