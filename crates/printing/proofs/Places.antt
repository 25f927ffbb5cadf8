-- Bytes put into a line one after the other, and the digits that `io` spells. Assumes nothing.
use Rattle.std.proofs.Common.{◌≡◌, ℕ, zero, suc, ◌+◌, ◌-◌, ◌*◌, ◌/◌, ◌%◌, ◌^◌, ◌<◌, ◌≤◌, List, [], ◌∷◌, ◌++◌, length, get_or, take, set, sym, refl, ap, ◌∙◌, add-one, arith, length-append, take-suc, lt-ltb}
use native.Mathlib.Numerals.{unary_clauses}
use lib.ListN.{replicate-append-replicate}
use lib.Seq.{sets}
use Rattle.io.specs.Digits.{last_digits, IsDigitCount}
use Rattle.rules.specs.Sheet.{decimal}
use Rattle.rules.proofs.Digits.{decimal_small, decimal_last}
use Rattle.printing.specs.declared.line.Line.{Line}
use Rattle.printing.specs.Lines.{fitting, line_after, place_after, with_bytes, blanks}

-- ── Places ──

-- first some, then others behind them
sets_more : (at : ℕ) (xs ys s : List ℕ) → sets (sets s at xs) (at + length xs) ys ≡ sets s at (xs ++ ys)
sets_more at [] ys s = let e : at + 0 ≡ at = omega arith in ap (λ (n : ℕ). sets s n ys) e
sets_more at (x ∷ xs) ys s =
    let e : at + suc (length xs) ≡ suc at + length xs = omega arith in
    ap (λ (n : ℕ). sets (sets (set s at x) (suc at) xs) n ys) e ∙ sets_more (suc at) xs ys (set s at x)

take_more : (m : ℕ) (xs ys : List ℕ) → take m xs ++ take (m - length (take m xs)) ys ≡ take m (xs ++ ys)
take_more zero xs ys = refl
take_more (suc m) [] ys = let e : suc m - 0 ≡ suc m = omega arith in rw e
take_more (suc m) (x ∷ xs) ys =
    let e : suc m - suc (length (take m xs)) ≡ m - length (take m xs) = omega arith in
    rw e (ap {B = List ℕ} (λ l. x ∷ l) (take_more m xs ys))

-- what fits of some, and of others behind them
fitting_more : (at : ℕ) (xs ys : List ℕ) → fitting at xs ++ fitting (place_after at xs) ys ≡ fitting at (xs ++ ys)
fitting_more at xs ys =
    let e : 160 - place_after at xs ≡ 160 - at - length (fitting at xs) = omega arith in
    rw e (take_more (160 - at) xs ys)

-- some bytes put, and then others where the next byte goes
pub put_then : (line : Line) (xs ys : List ℕ) → with_bytes (with_bytes line xs) ys ≡ with_bytes line (xs ++ ys)
put_then line xs ys =
    let at = line.at in
    let e = fitting_more at xs ys in
    let n = length-append (fitting at xs) (fitting (place_after at xs) ys) in
    let bytes : line_after (line_after line.bytes at xs) (place_after at xs) ys ≡ line_after line.bytes at (xs ++ ys) =
    sets_more at (fitting at xs) (fitting (place_after at xs) ys) line.bytes ∙ ap (λ (l : List ℕ). sets line.bytes at l) e in
    let place : place_after (place_after at xs) ys ≡ place_after at (xs ++ ys) = sym (rw e at (ap (λ (k : ℕ). at + k) n) ∙ omega arith) in
    rw (bytes, place)

-- one byte of a text more
pub text_on : (line : Line) (i : ℕ) (text : List ℕ) → i < length text → with_bytes (with_bytes line (take i text)) (get_or text i 0 ∷ []) ≡ with_bytes line (take (i + 1) text)
text_on line i text l =
    let t : take (i + 1) text ≡ take i text ++ (get_or text i 0 ∷ []) = rw add-one (take-suc text i 0 l) in
    rw t (put_then line (take i text) (get_or text i 0 ∷ []))

-- one blank more
pub blank_on : (line : Line) (i : ℕ) → with_bytes (with_bytes line (blanks i)) (32 ∷ []) ≡ with_bytes line (blanks (i + 1))
blank_on line i =
    let t : blanks (i + 1) ≡ blanks i ++ (32 ∷ []) = sym (replicate-append-replicate i 1 32) in
    rw t (put_then line (blanks i) (32 ∷ []))

-- ── Digits ──

one_le_pow : (k : ℕ) → 1 ≤ 10 ^ k
one_le_pow zero = omega arith
one_le_pow (suc k) = let h = one_le_pow k in simp unary_clauses (omega (arith, h))

-- the fewest digits that hold a number are its decimal ones
pub fewest_decimal : (k n : ℕ) → IsDigitCount 10 1 n k → last_digits 10 k n ≡ decimal n
fewest_decimal zero n h = absurd (omega (arith, h.0))
fewest_decimal (suc zero) n h =
    let small : n < 10 = omega (arith, h.1) in
    let d : n % 10 ≡ n = omega arith in
    rw (d, lt-ltb n 10 small) (sym (decimal_small n small))
fewest_decimal (suc (suc k)) n h =
    let least : 10 ^ k * 10 ≤ n = simp unary_clauses at (h.2 (omega arith)) in
    let most : n < 10 ^ k * 10 * 10 = simp unary_clauses at h.1 in
    let some : 1 ≤ 10 ^ k = one_le_pow k in
    let others : last_digits 10 (suc k) (n / 10) ≡ decimal (n / 10) = fewest_decimal (suc k) (n / 10) (omega arith, simp unary_clauses (omega (arith, most)), λ l. simp unary_clauses (omega (arith, least))) in
    rw (lt-ltb (n % 10) 10 (omega arith), others) (sym (decimal_last n (omega (arith, least, some))))
