-- A law of tests: what five of them in a row say. Assumes nothing.
use Rattle.std.specs.Prelude.{◌≡◌, Bool, true, ◌&&◌}
use Rattle.rules.proofs.Tests.{and_left, and_right}

pub and_parts : (a b c d e : Bool) → a && b && c && d && e ≡ true → (a ≡ true) × (b ≡ true) × (c ≡ true) × (d ≡ true) × (e ≡ true)
and_parts a b c d e h =
    let h₃ = and_left (a && b && c && d) e h in
    let h₂ = and_left (a && b && c) d h₃ in
    let h₁ = and_left (a && b) c h₂ in
    (and_left a b h₁, and_right a b h₁, and_right (a && b) c h₂, and_right (a && b && c) d h₃, and_right (a && b && c && d) e h)
