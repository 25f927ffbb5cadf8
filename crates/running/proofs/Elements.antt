-- One element of a list, and what is known of it after a store. Assumes nothing.
use Rattle.std.proofs.Common.{◌≡◌, ℕ, zero, suc, ◌+◌, ◌<◌, List, [], ◌∷◌, length, get_or, set, refl, arith, get_or-set_other, get_or-set_same}
use native.Mathlib.Decide.{ℕ_discrete}
use Rattle.rules.specs.declared.RunRow.{RunRow}

pub get_d_any : (l : List RunRow) (i : ℕ) (d d' : RunRow) → i < length l → get_or l i d ≡ get_or l i d'
get_d_any [] i d d' h = absurd (omega arith)
get_d_any (x ∷ l) zero d d' h = refl
get_d_any (x ∷ l) (suc i) d d' h = get_d_any l i d d' (omega arith)

-- a property of the rows before n, and of the row n
pub one_more : (P : RunRow → Type 0) (l : List RunRow) (n : ℕ) (d : RunRow) → n < length l → ((i : ℕ) (e : RunRow) → i < n → P (get_or l i e)) → P (get_or l n d) → (i : ℕ) (e : RunRow) → i < n + 1 → P (get_or l i e)
one_more P l n d h q p i e k = by_eq (ℕ_discrete i n)
  where
    by_eq : Dec (i ≡ n) → P (get_or l i e)
    by_eq (yes y) = rw (y, get_d_any l n e d h) p
    by_eq (no y) = q i e (omega (arith, y))

-- a property of the row j after a store at i
pub stored_at : (P : RunRow → Type 0) (l : List RunRow) (i j : ℕ) (v d : RunRow) → i < length l → ((j ≡ i → ⊥) → P (get_or l j d)) → (j ≡ i → P v) → P (get_or (set l i v) j d)
stored_at P l i j v d h q p = by_eq (ℕ_discrete j i)
  where
    by_eq : Dec (j ≡ i) → P (get_or (set l i v) j d)
    by_eq (yes e) = rw (e, get_or-set_same l i v d h) (p e)
    by_eq (no e) = rw (get_or-set_other l i j v d e) (q e)

-- a property of the row j and the number j after a store of both at i
pub both_at : (P : ℕ → RunRow → Type 0) (l : List RunRow) (m : List ℕ) (i j : ℕ) (v d : RunRow) (x : ℕ) → i < length l → i < length m → ((j ≡ i → ⊥) → P (get_or m j 0) (get_or l j d)) → (j ≡ i → P x v) → P (get_or (set m i x) j 0) (get_or (set l i v) j d)
both_at P l m i j v d x h k q p = by_eq (ℕ_discrete j i)
  where
    by_eq : Dec (j ≡ i) → P (get_or (set m i x) j 0) (get_or (set l i v) j d)
    by_eq (yes e) = rw (e, get_or-set_same l i v d h, get_or-set_same m i x 0 k) (p e)
    by_eq (no e) = rw (get_or-set_other l i j v d e, get_or-set_other m i j x 0 e) (q e)
