-- Each number names one refusal, so what is told settles the verdict. Assumes nothing.
use Prim.Native.Nat.{ℕ}
use mathlib.Core.Path.{◌≡◌, refl, sym, ap, ◌∙◌}
use mathlib.Core.List.{List, [], ◌∷◌}
use lib.ListN.{get_or}
use native.Mathlib.Omega.{arith}
use Rattle.rules.specs.Answers.{Verdict, Accepted, Refused}
use Rattle.rules.specs.Readings.{Reading}
use Rattle.rules.specs.Readings as reading
use Rattle.rules.specs.declared.Refusal.{Refusal}
use Rattle.rules.specs.declared.Refusal.TheVariants.{TooShort, TooLong, WrongMark, CountRange, DistanceSmall, HoldRange, CostRange, ValidityRange, IdRepeated, NoDeadline, FirstsCount, FirstRange, NotRunState, NoSuchId, DistanceLarge, BufferSmall, LineForm, FirstUsed}
use Rattle.rules.specs.Refusals.{Told, told, reading_told}

-- the verdicts at a place, by their numbers
abbrev verdicts : ℕ → List Verdict
verdicts k =
    Accepted
    ∷ Refused TooShort k
    ∷ Refused TooLong k
    ∷ Refused WrongMark k
    ∷ Refused CountRange k
    ∷ Refused DistanceSmall k
    ∷ Refused HoldRange k
    ∷ Refused CostRange k
    ∷ Refused ValidityRange k
    ∷ Refused IdRepeated k
    ∷ Refused NoDeadline k
    ∷ Refused FirstsCount k
    ∷ Refused FirstRange k
    ∷ Refused NotRunState k
    ∷ Refused NoSuchId k
    ∷ Refused DistanceLarge k
    ∷ Refused BufferSmall k
    ∷ Refused LineForm k
    ∷ Refused FirstUsed k
    ∷ []

abbrev verdict_of : Told → Verdict
verdict_of t = get_or (verdicts t.place) t.number Accepted

named : (v : Verdict) → verdict_of (told v) ≡ v
named Accepted = refl
named (Refused TooShort k) = refl
named (Refused TooLong k) = refl
named (Refused WrongMark k) = refl
named (Refused CountRange k) = refl
named (Refused DistanceSmall k) = refl
named (Refused HoldRange k) = refl
named (Refused CostRange k) = refl
named (Refused ValidityRange k) = refl
named (Refused IdRepeated k) = refl
named (Refused NoDeadline k) = refl
named (Refused FirstsCount k) = refl
named (Refused FirstRange k) = refl
named (Refused NotRunState k) = refl
named (Refused NoSuchId k) = refl
named (Refused DistanceLarge k) = refl
named (Refused BufferSmall k) = refl
named (Refused LineForm k) = refl
named (Refused FirstUsed k) = refl

pub told_settles : (v w : Verdict) → told v ≡ told w → v ≡ w
told_settles v w e = sym (named v) ∙ (ap verdict_of e ∙ named w)

-- and what a reading refuses
pub reading_settles : (x : Reading) {r : Refusal} {k : ℕ} → (reading_told x).refusal ≡ told (Refused r k) → x ≡ reading.Refused r k
reading_settles reading.Never {r} {k} e = let z : ◌≡◌ {A = ℕ} 0 1 = cc (told_settles Accepted (Refused r k) e) in absurd (omega arith)
reading_settles reading.Stale {r} {k} e = let z : ◌≡◌ {A = ℕ} 0 1 = cc (told_settles Accepted (Refused r k) e) in absurd (omega arith)
reading_settles (reading.Fresh a) {r} {k} e = let z : ◌≡◌ {A = ℕ} 0 1 = cc (told_settles Accepted (Refused r k) e) in absurd (omega arith)
reading_settles (reading.Refused q j) {r} {k} e = cc (told_settles (Refused q j) (Refused r k) e)
