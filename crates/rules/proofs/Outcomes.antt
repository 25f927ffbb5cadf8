-- What the Result of an answer says of the answer. Assumes nothing.
use Rattle.std.specs.Prelude.{ℕ, ◌≡◌, Ok, Err, refl}
use Rattle.std.proofs.Common.{arith, sym}
use Rattle.rules.specs.declared.Refused as at_place
use Rattle.rules.specs.Answers.{Verdict, Accepted, Refused, outcome}

-- what was asked for is there where nothing is refused
pub given : {A : Type 0} (v : Verdict) (x y : A) → Ok y ≡ outcome v x → (v ≡ Accepted) × (y ≡ x)
given Accepted x y e = (refl, cc)
given (Refused r k) x y e = let z : ◌≡◌ {A = ℕ} 0 1 = cc in absurd (omega arith)

pub accepted : {A : Type 0} (v : Verdict) (x y : A) → outcome v x ≡ Ok y → v ≡ Accepted
accepted v x y e = (given v x y (sym e)).0

-- and otherwise the refusal
pub refused : {A : Type 0} (v : Verdict) (x : A) (e : at_place.Refused) → outcome v x ≡ Err e → v ≡ Refused e.refusal e.place
refused Accepted x e h = let z : ◌≡◌ {A = ℕ} 0 1 = cc in absurd (omega arith)
refused (Refused r k) x e h = cc
