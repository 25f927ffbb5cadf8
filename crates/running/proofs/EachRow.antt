-- The three steps of a slot at the first n rows, and how a loop goes over them from the front. Assumes nothing.
use Rattle.std.proofs.Common.{◌≡◌, ℕ, zero, suc, ◌+◌, ◌<◌, ◌≤◌, Bool, true, false, cond, eqb, List, [], ◌∷◌, ◌++◌, map, length, get_or, take, drop, set, sym, refl, ◌∙◌, add-one, arith, ne_eqb, take-append-drop}
use lib.Seq.{set-get_or}
use Rattle.rules.specs.declared.RunRow.{RunRow}
use Rattle.rules.specs.RunState.{in_hold, any}
use Rattle.rules.specs.Run.{tick, released_of, served_of, may_work, serve_first, step_one, step_two, step_three, slot_rows}

-- ── The three steps at the first n rows ──

unfoldable pub each_in : (RunRow → RunRow) → ℕ → List RunRow → List RunRow
each_in f zero l = l
each_in f (suc n) [] = []
each_in f (suc n) (r ∷ l) = f r ∷ each_in f n l

-- of these the first with p gets the slot
unfoldable pub serve_in : (RunRow → Bool) → ℕ → List RunRow → List RunRow
serve_in p zero l = l
serve_in p (suc n) [] = []
serve_in p (suc n) (r ∷ l) = cond (p r) (served_of r ∷ l) (r ∷ serve_in p n l)

pub each_is : (f : RunRow → RunRow) (n : ℕ) (l : List RunRow) → map f (take n l) ++ drop n l ≡ each_in f n l
unfolding each_in
each_is f zero l = refl
each_is f (suc n) [] = refl
each_is f (suc n) (r ∷ l) = rw (each_is f n l)

pub take_each : (f : RunRow → RunRow) (n : ℕ) (l : List RunRow) → take n (each_in f n l) ≡ map f (take n l)
unfolding each_in
take_each f zero l = refl
take_each f (suc n) [] = refl
take_each f (suc n) (r ∷ l) = rw (take_each f n l)

pub drop_each : (f : RunRow → RunRow) (n : ℕ) (l : List RunRow) → drop n (each_in f n l) ≡ drop n l
unfolding each_in
drop_each f zero l = refl
drop_each f (suc n) [] = refl
drop_each f (suc n) (r ∷ l) = drop_each f n l

take_serve : (p : RunRow → Bool) (n : ℕ) (l : List RunRow) → take n (serve_in p n l) ≡ serve_first p (take n l)
unfolding serve_in serve_first
take_serve p zero l = refl
take_serve p (suc n) [] = refl
take_serve p (suc n) (r ∷ l) = step (p r) (take_serve p n l)
  where
    step : (b : Bool) → take n (serve_in p n l) ≡ serve_first p (take n l) → take (suc n) (cond b (served_of r ∷ l) (r ∷ serve_in p n l)) ≡ cond b (served_of r ∷ take n l) (r ∷ serve_first p (take n l))
    step true e = refl
    step false e = rw e

drop_serve : (p : RunRow → Bool) (n : ℕ) (l : List RunRow) → drop n (serve_in p n l) ≡ drop n l
unfolding serve_in
drop_serve p zero l = refl
drop_serve p (suc n) [] = refl
drop_serve p (suc n) (r ∷ l) = step (p r) (drop_serve p n l)
  where
    step : (b : Bool) → drop n (serve_in p n l) ≡ drop n l → drop (suc n) (cond b (served_of r ∷ l) (r ∷ serve_in p n l)) ≡ drop n l
    step true e = refl
    step false e = e

-- step 2 at the first n rows; `holding` says whether one of them is in its hold
pub serve_is : (stolen : Bool) (n : ℕ) (holding : Bool) (l : List RunRow) → any in_hold (take n l) ≡ holding → step_two stolen (take n l) ++ drop n l ≡ serve_in (may_work holding) (cond stolen 0 n) l
unfolding serve_in
serve_is true n holding l h = take-append-drop n l
serve_is false n holding l h =
    rw (h, ← take_serve (may_work holding) n l, ← drop_serve (may_work holding) n l) (take-append-drop n (serve_in (may_work holding) n l))

take_two : (stolen : Bool) (n : ℕ) (l : List RunRow) → take n (step_two stolen (take n l) ++ drop n l) ≡ step_two stolen (take n l)
take_two true n l = rw take-append-drop
take_two false n l = rw (serve_is false n (any in_hold (take n l)) l refl) (take_serve (may_work (any in_hold (take n l))) n l)

drop_two : (stolen : Bool) (n : ℕ) (l : List RunRow) → drop n (step_two stolen (take n l) ++ drop n l) ≡ drop n l
drop_two true n l = rw take-append-drop
drop_two false n l = rw (serve_is false n (any in_hold (take n l)) l refl) (drop_serve (may_work (any in_hold (take n l))) n l)

-- the slot, step by step
pub slot_is : (clock n : ℕ) (stolen : Bool) (l l₁ l₂ l₃ : List RunRow) → l₁ ≡ step_one clock (take n l) ++ drop n l → l₂ ≡ step_two stolen (take n l₁) ++ drop n l₁ → l₃ ≡ step_three (tick clock) (take n l₂) ++ drop n l₂ → l₃ ≡ slot_rows clock stolen (take n l) ++ drop n l
slot_is clock n stolen l l₁ l₂ l₃ a b c =
    let f = released_of clock in
    let t₁ : take n l₁ ≡ step_one clock (take n l) = rw (a, each_is f n l) (take_each f n l) in
    let d₁ : drop n l₁ ≡ drop n l = rw (a, each_is f n l) (drop_each f n l) in
    let t₂ : take n l₂ ≡ step_two stolen (take n l₁) = rw b (take_two stolen n l₁) in
    let d₂ : drop n l₂ ≡ drop n l₁ = rw b (drop_two stolen n l₁) in
    rw (c, t₂, d₂, t₁, d₁) refl

-- ── A step goes over the rows from the front ──

each_next : (f : RunRow → RunRow) (i : ℕ) (l : List RunRow) (d : RunRow) → i < length l → set (each_in f i l) i (f (get_or (each_in f i l) i d)) ≡ each_in f (suc i) l
unfolding each_in
each_next f i [] d h = absurd (omega arith)
each_next f zero (r ∷ l) d h = refl
each_next f (suc i) (r ∷ l) d h = rw (each_next f i l d (omega arith))

-- the rows so far, and what the row i becomes
pub each_stored : (f : RunRow → RunRow) (i : ℕ) (l l₀ : List RunRow) (v d : RunRow) → i < length l₀ → l ≡ each_in f i l₀ → v ≡ f (get_or l i d) → set l i v ≡ each_in f (i + 1) l₀
each_stored f i l l₀ v d h e w = rw (w, e, each_next f i l₀ d h, add-one i)

pub each_same : (f : RunRow → RunRow) (i : ℕ) (l l₀ : List RunRow) (d : RunRow) → i < length l₀ → l ≡ each_in f i l₀ → f (get_or l i d) ≡ get_or l i d → l ≡ each_in f (i + 1) l₀
each_same f i l l₀ d h e w = sym (set-get_or l i d) ∙ each_stored f i l l₀ (get_or l i d) d h e (sym w)

each_none : (f : RunRow → RunRow) (n : ℕ) (l : List RunRow) → ((i : ℕ) (d : RunRow) → i < n → f (get_or l i d) ≡ get_or l i d) → each_in f n l ≡ l
unfolding each_in
each_none f zero l q = refl
each_none f (suc n) [] q = refl
each_none f (suc n) (r ∷ l) q = rw (q 0 r (omega arith), each_none f n l (λ i d k. q (suc i) d (omega arith)))

-- all rows were looked at, or none and none needed it
pub each_all : (f : RunRow → RunRow) (calm count upto i : ℕ) (l l₀ : List RunRow) → upto ≡ cond (eqb calm 0) count 0 → upto ≤ i → i ≤ upto → l ≡ each_in f i l₀ → (0 < calm → (j : ℕ) (d : RunRow) → j < count → f (get_or l₀ j d) ≡ get_or l₀ j d) → l ≡ each_in f count l₀
unfolding each_in
each_all f zero count upto i l l₀ u a b e q =
    let w : i ≡ count = omega (arith, u) in
    rw (← w) e
each_all f (suc calm) count upto i l l₀ u a b e q =
    let v : upto ≡ 0 = rw (ne_eqb (suc calm) 0 (λ z. omega arith)) at u in
    let w : i ≡ 0 = omega (arith, v) in
    let z : l ≡ l₀ = rw w at e in
    z ∙ sym (each_none f count l₀ (q (omega arith)))

-- ── The first row that gets the slot ──

-- none of the first n rows has p
abbrev pub AllRest : (RunRow → Bool) → ℕ → List RunRow → Type 0
AllRest p n l = (i : ℕ) (d : RunRow) → i < n → p (get_or l i d) ≡ false

module _ (p : RunRow → Bool) where
  pub serve_none : (n : ℕ) (l : List RunRow) → AllRest p n l → serve_in p n l ≡ l
  unfolding serve_in
  serve_none zero l w = refl
  serve_none (suc n) [] w = refl
  serve_none (suc n) (r ∷ l) w = rw (w 0 r (omega arith), serve_none n l (λ i d k. w (suc i) d (omega arith)))

  pub serve_at : (n f : ℕ) (l : List RunRow) (d : RunRow) → f < n → f < length l → AllRest p f l → p (get_or l f d) ≡ true → serve_in p n l ≡ set l f (served_of (get_or l f d))
  unfolding serve_in
  serve_at zero f l d h k w b = absurd (omega arith)
  serve_at (suc n) f [] d h k w b = absurd (omega arith)
  serve_at (suc n) zero (r ∷ l) d h k w b = rw b
  serve_at (suc n) (suc f) (r ∷ l) d h k w b = rw (w 0 r (omega arith), serve_at n f l d (omega arith) (omega arith) (λ i d k. w (suc i) d (omega arith)) b)
