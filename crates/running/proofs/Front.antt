-- Where `advance_rows` looks for the row that gets the slot: the row `first` is in its hold and no other, or none is and no row before
-- `first` has work. Assumes nothing.
use Rattle.std.proofs.Common.{◌≡◌, ℕ, ◌+◌, ◌<◌, ◌≤◌, Bool, true, false, cond, not, ◌&&◌, ◌||◌, eqb, leb, Option, Some, None, is_some, unwrap_or, List, length, get_or, take, set, sym, refl, ◌∙◌, arith, get_or-set_other, eq-eqb, ne_eqb, leb-false, leb-true}
use Rattle.std.specs.List.{position}
use Rattle.rules.specs.declared.RunRow.{RunRow}
use Rattle.rules.specs.RunState.{in_hold, any, one_hold}
use Rattle.rules.specs.Run.{no_run_row, may_work}
use Rattle.rules.proofs.Holds.{idle_free, one_free}
use Rattle.running.specs.Outlook.{AllIdle, Front}
use Rattle.running.proofs.Elements.{one_more, stored_at}
use Rattle.running.proofs.EachRow.{AllRest}
use Rattle.running.proofs.HeldRow.{any_at, any_none, held_here, held_nowhere}

-- ── Rows without work ──

idle_stored : (rows : List RunRow) (i f n : ℕ) (v : RunRow) → n ≤ f → n ≤ i → AllIdle f rows → AllIdle n (set rows i v)
idle_stored rows i f n v h k w = λ j d z. rw (get_or-set_other rows i j v d (λ u. omega arith)) (w j d (omega arith))

-- ── The front ──

never : false ≡ true → ⊥
never e = let z : ◌≡◌ {A = ℕ} 0 1 = cc in omega arith

-- from the place of the row in its hold, if there is one
pub front_start : (n : ℕ) (rows : List RunRow) → n ≤ length rows → one_hold (take n rows) ≡ true → (held : Option ℕ) (t : Bool) (f : ℕ) → held ≡ position in_hold (take n rows) → t ≡ is_some held → f ≡ unwrap_or held 0 → Front t n f rows
front_start n rows k o (Some h) t f e q z =
    let y = held_here n rows k o h e in
    rw (q, z) (record { held = y.1; within = λ w. y.0; idle = λ w. absurd (never (sym w)) })
front_start n rows k o None t f e q z =
    rw (q, z) (record { held = held_nowhere n rows k e; within = λ w. absurd (never w); idle = λ w i d h. absurd (omega arith) })

module _ {count first : ℕ} {rows : List RunRow} where
  -- whether any row is in its hold
  pub front_any : (holding : Bool) → Front holding count first rows → count ≤ length rows → any in_hold (take count rows) ≡ holding
  front_any true p h = any_at in_hold count rows first no_run_row (p.within refl) h (p.held first no_run_row (p.within refl) ∙ eq-eqb first first refl)
  front_any false p h = any_none in_hold count rows p.held

  -- no row before `first` may get the slot
  pub front_rests : (holding : Bool) → Front holding count first rows → AllRest (may_work holding) first rows
  unfolding may_work
  front_rests true p = λ i d k. p.held i d (omega (arith, k, p.within refl)) ∙ ne_eqb i first (λ z. omega arith)
  front_rests false p = λ i d k. simp (eq-eqb _ _ (p.idle refl i d k))

  -- the row `first` may, if it has work
  pub front_works : (holding : Bool) → Front holding count first rows → (d : RunRow) → first < count → ((get_or rows first d).left ≡ 0 → ⊥) → may_work holding (get_or rows first d) ≡ true
  unfolding may_work
  front_works true p d h b = p.held first d h ∙ eq-eqb first first refl
  front_works false p d h b = simp (ne_eqb _ _ b)

  -- with a hold of 1 it is in no hold, and so none is
  pub front_one : (holding : Bool) → Front holding count first rows → (d : RunRow) → first < count → (get_or rows first d).planned.hold < 2 → holding ≡ false
  front_one true p d h k = sym (eq-eqb first first refl) ∙ sym (p.held first d h) ∙ one_free (get_or rows first d) k
  front_one false p d h k = refl

  -- and if it has none, no row is in its hold
  pub front_idle : (holding : Bool) → Front holding count first rows → (d : RunRow) → first < count → first < length rows → (get_or rows first d).left ≡ 0 → Front holding count (first + 1) rows
  front_idle true p d h k e =
      absurd (never (sym (idle_free (get_or rows first d) e) ∙ p.held first d h ∙ eq-eqb first first refl))
  front_idle false p d h k e =
      record { held = p.held; within = λ w. absurd (never w); idle = λ w. one_more (λ r. r.left ≡ 0) rows first d k (p.idle refl) e }

module _ {holding : Bool} {count first : ℕ} {rows : List RunRow} (p : Front holding count first rows) where
  -- a store that begins no hold and ends none
  same_hold : (i : ℕ) (v d : RunRow) → i < count → i < length rows → in_hold v ≡ in_hold (get_or rows i d) → (j : ℕ) (d' : RunRow) → j < count → in_hold (get_or (set rows i v) j d') ≡ holding && eqb j first
  same_hold i v d h k e j d' z =
      stored_at (λ w. in_hold w ≡ holding && eqb j first) rows i j v d' k (λ u. p.held j d' z) (λ u. rw u (e ∙ p.held i d h))

  pub front_aged : (i : ℕ) (v d : RunRow) → i < count → i < length rows → in_hold v ≡ in_hold (get_or rows i d) → v.left ≡ (get_or rows i d).left → Front holding count first (set rows i v)
  front_aged i v d h k e l =
      record {
        held = same_hold i v d h k e;
        within = p.within;
        idle = λ w j d' z. stored_at (λ o. o.left ≡ 0) rows i j v d' k (λ u. p.idle w j d' z) (λ u. l ∙ p.idle w i d (omega (arith, u, z)));
      }

-- the row i is released
pub front_released : {count first : ℕ} {rows : List RunRow} (holding : Bool) → Front holding count first rows → (i f : ℕ) (v d : RunRow) → i < count → i < length rows → in_hold v ≡ in_hold (get_or rows i d) → f ≡ cond (holding || leb first i) first i → Front holding count f (set rows i v)
front_released true p i f v d h k e z = record { held = rw z (same_hold p i v d h k e); within = rw z p.within; idle = λ w. absurd (never (sym w)) }
front_released {first = first} {rows = rows} false p i f v d h k e z =
    record { held = same_hold p i v d h k e; within = λ w. absurd (never w); idle = λ w. by_place (leb first i) refl z }
  where
    by_place : (b : Bool) → leb first i ≡ b → f ≡ cond b first i → AllIdle f (set rows i v)
    by_place true y o = idle_stored rows i first f v (omega (arith, o)) (omega (arith, o, leb-true first i y)) (p.idle refl)
    by_place false y o = idle_stored rows i first f v (omega (arith, o, leb-false first i y)) (omega (arith, o)) (p.idle refl)

-- the row `first` has done a unit
pub front_served : {holding : Bool} {count first : ℕ} {rows : List RunRow} → Front holding count first rows → (f : ℕ) (t : Bool) (v : RunRow) → first < count → first < length rows → t ≡ in_hold v → f ≡ cond (holding && not t) 0 first → Front t count f (set rows first v)
front_served {holding} {count} {first} {rows} p f t v h k w z = by_hold t w z holding refl
  where
    -- no other row is in its hold
    others : (a b : Bool) (j : ℕ) (d : RunRow) → holding ≡ a → j < count → (j ≡ first → ⊥) → in_hold (get_or rows j d) ≡ b && eqb j first
    others true true j d e y o = rw e at (p.held j d y)
    others true false j d e y o = (rw e at (p.held j d y)) ∙ ne_eqb j first o
    others false true j d e y o = (rw e at (p.held j d y)) ∙ sym (ne_eqb j first o)
    others false false j d e y o = rw e at (p.held j d y)

    held_on : (a : Bool) → f ≡ cond (a && false) 0 first → f ≡ first
    held_on true o = o
    held_on false o = o

    by_hold : (b : Bool) → b ≡ in_hold v → f ≡ cond (holding && not b) 0 first → (a : Bool) → holding ≡ a → Front b count f (set rows first v)
    by_hold true w z a e =
        let o = held_on holding z in
        record {
          held = λ j d y. rw o (stored_at (λ r. in_hold r ≡ eqb j first) rows first j v d k (others a true j d e y) (λ u. sym w ∙ sym (eq-eqb j first u)));
          within = λ u. rw o h;
          idle = λ u. absurd (never (sym u));
        }
    by_hold false w z a e =
        record { held = λ j d y. stored_at (λ r. in_hold r ≡ false) rows first j v d k (others a false j d e y) (λ u. sym w); within = λ u. absurd (never u); idle = λ u. over a e (rw e at z) }
      where
        over : (a : Bool) → holding ≡ a → f ≡ cond (a && true) 0 first → AllIdle f (set rows first v)
        over true e o = λ j d y. absurd (omega (arith, o))
        over false e o = idle_stored rows first first f v (omega (arith, o)) (omega (arith, o)) (p.idle e)
