-- The bytes of a number, and bytes that replace as many. Assumes nothing.
use Rattle.std.proofs.Common.{◌≡◌, ◌∙◌, sym, refl, ℕ, ◌+◌, ◌/◌, ◌%◌, ◌^◌, ◌≤◌, ◌<◌, arith, List, length, append_assoc}
use Rattle.std.specs.Int.{w16, w32, to_le_bytes}
use Rattle.std.proofs.lemmas.List.Edits.{sets, sets-eq, paste_all}
use Rattle.std.proofs.lemmas.Slice.{put_mid-paste}
use borrow.Rule.Slice.PartMut.{put_mid}
use Rattle.rules.specs.Writing.{bytes16, bytes32}

-- the bytes that replace as many
pub put_mid-sets : (at k : ℕ) (s ys zs : List ℕ) → ys ≡ zs → k ≡ length zs → at + k ≤ length s → put_mid at k s ys ≡ sets s at zs
put_mid-sets at k s ys zs e l h = put_mid-paste at k s ys zs k e refl l ∙ (paste_all s at zs k l ∙ rw (l, ← append_assoc) (sym (sets-eq zs s at (omega arith))))

pub four_bytes : (x : ℕ) → x < 2 ^ 32 → to_le_bytes w32 x ≡ bytes32 x
four_bytes x h =
    let a : x % 256 ≡ x % 65536 % 256 = omega arith in
    let b : x / 256 % 256 ≡ x % 65536 / 256 = omega arith in
    let d : x / 16777216 % 256 ≡ x / 65536 / 256 = omega arith in
    cc

pub two_bytes : (x : ℕ) → x < 2 ^ 16 → to_le_bytes w16 x ≡ bytes16 x
two_bytes x h = let b : x / 256 % 256 ≡ x / 256 = omega arith in cc
