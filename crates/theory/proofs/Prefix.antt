-- Same ahead, same states: what the history of the first k objects depends on.
-- Assumes that the objects behind them have holds of at most 1, so that none of them keeps the core.
use Rattle.std.specs.Prelude.{ℕ, zero, suc, ◌+◌, ◌<◌, ◌≡◌, refl, false, List, [], ◌∷◌, length, take, drop}
use Rattle.std.proofs.Common.{sym, ap, ap₂, ◌∙◌, arith, length-take, get_or-take}
use Rattle.theory.specs.Model.{State, no_state, at, objects, release, releases, in_hold, any, step_two, slot}
use Rattle.theory.specs.Model.{Course, history, state, plans_of}
use Rattle.theory.proofs.Holds.{unheld}
use Rattle.theory.proofs.Slot.{slot_take}
use Rattle.theory.proofs.Track.{history_objects, history_length}
use Rattle.theory.specs.Prefix.{Unheld, first_of, SameGiven}

pub unheld_none : (k : ℕ) (ws : List State) → Unheld k (objects ws) → any in_hold (drop k ws) ≡ false
unfolding objects any
unheld_none zero [] h = refl
unheld_none zero (w ∷ ws) h =
    rw (unheld w (h 0 (omega arith) (omega arith))) (unheld_none 0 ws (λ i l u. h (suc i) (omega arith) (omega arith)))
unheld_none (suc k) [] h = refl
unheld_none (suc k) (w ∷ ws) h = unheld_none k ws (λ i l u. h (suc i) (omega arith) (omega arith))

-- the first k go on as if they were alone
pub prefix : (k : ℕ) (c : Course) → Unheld k (plans_of c) → (t : ℕ) → take k (history c t) ≡ history (first_of k c) t
unfolding history
prefix k c h zero = refl
prefix k c h (suc t) =
    let now = c.from + t in
    let g : ℕ → ℕ = λ i. c.works i t in
    let none = unheld_none k (history c t) (rw (history_objects c t) h) in
    slot_take now g (history c t) k (c.stolen t) none ∙ ap (slot now g (c.stolen t)) (prefix k c h t)

releases_same : (now : ℕ) (g g' : ℕ → ℕ) (ws : List State) → ((i : ℕ) → i < length ws → g i ≡ g' i) → releases now g ws ≡ releases now g' ws
unfolding releases
releases_same now g g' [] h = refl
releases_same now g g' (w ∷ ws) h =
    ap₂ {C = List State} (λ x q. release now x w ∷ q) (h 0 (omega arith))
    (releases_same now (λ i. g (suc i)) (λ i. g' (suc i)) ws (λ i l. h (suc i) (omega arith)))

same_before : (k t : ℕ) (c c' : Course) → SameGiven k (suc t) c c' → SameGiven k t c c'
same_before k t c c' s = record {
  from_same = s.from_same;
  begin_same = s.begin_same;
  works_same = λ i u l m. s.works_same i u l (omega arith);
  stolen_same = λ u m. s.stolen_same u (omega arith);
}

first_same : (k : ℕ) (c c' : Course) (t : ℕ) → SameGiven k t c c' → history (first_of k c) t ≡ history (first_of k c') t
unfolding history slot
first_same k c c' zero s = s.begin_same
first_same k c c' (suc t) s =
    let ws = history (first_of k c) t in
    let size = history_length (first_of k c) t in
    let e = releases_same (c.from + t) (λ i. c.works i t) (λ i. c'.works i t) ws
    (λ i l. let n = rw (size, length-take) at l in s.works_same i t (omega arith) (omega arith)) in
    let ih = first_same k c c' t (same_before k t c c' s) in
    ap₂ step_two (s.stolen_same t (omega arith)) (e ∙ ap₂ (λ f vs. releases (f + t) (λ i. c'.works i t) vs) s.from_same ih)

-- two runs that agree on the first k objects, and on what is given to them, give each of these the same states
pub same_ahead : (k : ℕ) (c c' : Course) (t : ℕ) → SameGiven k t c c' → Unheld k (plans_of c) → Unheld k (plans_of c')
    → (i : ℕ) → i < k → state c i t ≡ state c' i t
same_ahead k c c' t s h h' i l =
    let p : at (take k (history c t)) i ≡ state c i t = get_or-take k (history c t) i no_state l in
    let p' : at (take k (history c' t)) i ≡ state c' i t = get_or-take k (history c' t) i no_state l in
    sym p ∙ (ap (λ ws. at ws i) (prefix k c h t ∙ (first_same k c c' t s ∙ sym (prefix k c' h' t))) ∙ p')
