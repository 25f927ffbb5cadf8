-- A start: "Nothing is in hand or stored; skips are 0." Assumes nothing.
use Rattle.std.specs.Prelude.{ℕ, suc, ◌+◌, List, [], ◌∷◌}
use Rattle.std.proofs.Math.Option.{none}
use Rattle.theory.specs.Model.{Object, State}

-- an object at the instant `from`, and a list of them, where `firsts` tells the first releases by place
unfoldable pub start : ℕ → Object → ℕ → State
start from o first = record { planned = o; next = from + first; left = 0; work = 0; sample = 0; value = none; skips = 0 }

unfoldable pub starts : ℕ → List Object → (ℕ → ℕ) → List State
unfolding start
starts from [] firsts = []
starts from (o ∷ os) firsts = start from o (firsts 0) ∷ starts from os (λ i. firsts (suc i))
