-- The loops of the three steps that `advance` does: what holds in each, and each way on. Assumes nothing.
use Rattle.std.proofs.Common.{◌≡◌, ℕ, zero, suc, ◌+◌, ◌^◌, ◌<◌, ◌≤◌, Bool, true, false, cond, not, ◌&&◌, ◌||◌, eqb, ltb, leb, List, ◌++◌, length, get_or, take, drop, set, sym, refl, ap, ◌∙◌, arith, length-set, ltb-false, ltb-true, ne_eqb}
use native.Mathlib.Decide.{ℕ_discrete}
use lib.Seq.{set-get_or}
use Rattle.rules.specs.declared.RunRow.{RunRow}
use Rattle.rules.specs.RunState.{due_in, in_hold}
use Rattle.rules.specs.Run.{tick, released_of, served_of, may_work, aged_of, step_one, step_two, step_three}
use Rattle.rules.proofs.Holds.{one_free, released_hold, aged_hold}
use Rattle.rules.proofs.Tests.{and_left, and_right, or_false}
use Rattle.running.specs.declared.outlook.Outlook.{Outlook}
use Rattle.running.specs.Rests.{Rests}
use Rattle.running.specs.Outlook.{AllUndue, Watch, Front, Kept, Between, Within}
use Rattle.running.proofs.Elements.{get_d_any, stored_at, both_at}
use Rattle.running.proofs.Ahead.{due_later, nearer_later, rests_now, rests_later, ahead_same, less_of, served_less, served_free, rests_less, served_next}
use Rattle.running.proofs.EachRow.{each_in, serve_in, each_is, serve_is, each_stored, each_same, each_all, serve_none, serve_at}
use Rattle.running.proofs.Front.{front_any, front_rests, front_works, front_one, front_idle, front_released, front_served, front_aged}

-- ── Releases ahead ──

-- a store that leaves the next release as it is
undue_stored : (clock due count : ℕ) (rows : List RunRow) (i : ℕ) (v d : RunRow) → i < count → i < length rows → v.next ≡ (get_or rows i d).next → AllUndue clock due count rows → AllUndue clock due count (set rows i v)
undue_stored clock due count rows i v d h k e q =
    λ j d' z. stored_at (λ w. due_in clock due ≤ due_in clock w.next) rows i j v d' k (λ u. q j d' z) (λ u. rw e (q i d h))

-- ── What holds at all times ──

watch_nearer : {clock n m l : ℕ} {row : RunRow} → due_in clock m ≤ due_in clock n → Watch clock n l row → Watch clock m l row
watch_nearer h q = record { soon = omega (arith, h, q.soon); rests = q.rests }

rests_on : (clock l : ℕ) (row : RunRow) → clock < 2 ^ 32 → 0 < due_in clock l → Rests clock (due_in clock l) row → Rests (tick clock) (due_in (tick clock) l) row
rests_on clock l row h k q = rests_later clock (due_in clock l) (due_in (tick clock) l) row (omega (arith, due_later clock l h k)) q

watch_later : {clock n l : ℕ} {row : RunRow} → clock < 2 ^ 32 → 0 < due_in clock n → Watch clock n l row → Watch (tick clock) n l row
watch_later {clock = clock} {n = n} {l = l} {row = row} h k q =
    record { soon = nearer_later clock n l h k q.soon; rests = rests_on clock l row h (omega (arith, k, q.soon)) q.rests }

-- the row i becomes v, which rests until l
kept_stored : {clock count lapse first : ℕ} {holding : Bool} {rows : List RunRow} {lapses : List ℕ} → Kept clock count rows lapses lapse holding first → (i l r f : ℕ) (t : Bool) (v : RunRow) → i < count → Rests clock (due_in clock l) v → due_in clock r ≤ due_in clock lapse → due_in clock r ≤ due_in clock l → Front t count f (set rows i v) → Kept clock count (set rows i v) (set lapses i l) r t f
kept_stored {clock = clock} {rows = rows} {lapses = lapses} p i l r f t v h q a b w =
    record {
      few = p.few;
      long = length-set rows i v ∙ p.long;
      wide = length-set lapses i l ∙ p.wide;
      sized = p.sized;
      watched = λ j d z. both_at (Watch clock r) rows lapses i j v d l (omega (arith, h, p.few, p.long)) (omega (arith, h, p.few, p.wide)) (λ u. watch_nearer a (p.watched j d z)) (λ u. record { soon = b; rests = q });
      front = w;
    }

-- ── Looks ──

-- a row is left out only where slots are still to come in which none needs a look
none_calm : (calm count upto j : ℕ) → upto ≡ cond (eqb calm 0) count 0 → j < count → (j < upto → j < 0) → 0 < calm
none_calm zero count upto j u h k = absurd (omega (arith, k (omega (arith, u))))
none_calm (suc calm) count upto j u h k = omega arith

some_few : (calm count upto : ℕ) → upto ≡ cond (eqb calm 0) count 0 → upto ≤ count
some_few zero count upto u = omega (arith, u)
some_few (suc calm) count upto u =
    let v : upto ≡ 0 = rw (ne_eqb (suc calm) 0 (λ z. omega arith)) at u in
    omega (arith, v)

nearer_yet : {a b c : ℕ} → a ≤ b → b ≤ c → a ≤ c
nearer_yet h k = omega arith

-- ── Step 1 ──

-- the rows before i are released
pub record Releasing (clock count : ℕ) (rows₀ : List RunRow) (upto : ℕ) (rows : List RunRow) (lapses : List ℕ) (due lapse : ℕ) (holding : Bool) (first i : ℕ) : Type 0 where
  pub kept : Kept clock count rows lapses lapse holding first
  pub fits : upto ≤ count
  pub long₀ : length rows₀ ≡ 64
  pub up_to : i ≤ upto
  pub same : rows ≡ each_in (released_of clock) i rows₀
  pub undue : (j : ℕ) (d : RunRow) → j < count → (j < upto → j < i) → due_in (tick clock) due ≤ due_in (tick clock) (get_or rows j d).next

pub releasing_none : {ahead : Outlook} {rows : List RunRow} {lapses : List ℕ} {upto : ℕ} → Between ahead rows lapses → upto ≡ cond (eqb (due_in ahead.clock ahead.due) 0) ahead.count 0 → Releasing ahead.clock ahead.count rows upto rows lapses ahead.due ahead.lapse ahead.holding ahead.first 0
unfolding each_in
releasing_none {ahead = ahead} {rows = rows} {upto = upto} g u =
    record {
      kept = g.kept;
      fits = some_few (due_in ahead.clock ahead.due) ahead.count upto u;
      long₀ = g.kept.long;
      up_to = omega arith;
      same = refl;
      undue = λ j d z y. nearer_later ahead.clock ahead.due (get_or rows j d).next g.kept.sized (none_calm (due_in ahead.clock ahead.due) ahead.count upto j u z y) (g.undue j d z);
    }

module _ {clock count : ℕ} {rows₀ : List RunRow} {upto : ℕ} {rows : List RunRow} {lapses : List ℕ} {due lapse : ℕ} {holding : Bool} {first i : ℕ} (p : Releasing clock count rows₀ upto rows lapses due lapse holding first i) where
  module _ (d : RunRow) (h : i < upto) (n : ℕ) (a : due_in (tick clock) n ≤ due_in (tick clock) due) where
    rel_here : i < count
    rel_here = omega (arith, h, p.fits)

    -- not due
    pub releasing_same : ((get_or rows i d).next ≡ clock → ⊥) → due_in (tick clock) n ≤ due_in (tick clock) (get_or rows i d).next → Releasing clock count rows₀ upto rows lapses n lapse holding first (i + 1)
    unfolding released_of
    releasing_same w q =
        record {
          kept = p.kept;
          fits = p.fits;
          long₀ = p.long₀;
          up_to = omega arith;
          same = each_same (released_of clock) i rows rows₀ d (omega (arith, rel_here, p.kept.few, p.long₀)) p.same (simp (ne_eqb _ _ w));
          undue = λ j d' z y. by_eq j d' z y (ℕ_discrete j i);
        }
      where
        by_eq : (j : ℕ) (d' : RunRow) → j < count → (j < upto → j < i + 1) → Dec (j ≡ i) → due_in (tick clock) n ≤ due_in (tick clock) (get_or rows j d').next
        by_eq j d' z y (yes e) = rw (e, get_d_any rows i d' d (omega (arith, rel_here, p.kept.few, p.kept.long))) q
        by_eq j d' z y (no e) = nearer_yet a (p.undue j d' z (λ x. omega (arith, e, y x)))

    -- due: the row becomes v
    pub releasing_stored : (v : RunRow) (l r f : ℕ) → v ≡ released_of clock (get_or rows i d) → due_in (tick clock) n ≤ due_in (tick clock) v.next → Rests clock (due_in clock l) v → due_in clock r ≤ due_in clock lapse → due_in clock r ≤ due_in clock l → f ≡ cond (holding || leb first i) first i → Releasing clock count rows₀ upto (set rows i v) (set lapses i l) n r holding f (i + 1)
    releasing_stored v l r f e q t x y s =
        record {
          kept = kept_stored p.kept i l r f holding v rel_here t x y (front_released holding p.kept.front i f v d rel_here (omega (arith, rel_here, p.kept.few, p.kept.long)) (ap in_hold e ∙ released_hold clock (get_or rows i d)) s);
          fits = p.fits;
          long₀ = p.long₀;
          up_to = omega arith;
          same = each_stored (released_of clock) i rows rows₀ v d (omega (arith, rel_here, p.kept.few, p.long₀)) p.same e;
          undue = λ j d' z w. stored_at (λ o. due_in (tick clock) n ≤ due_in (tick clock) o.next) rows i j v d' (omega (arith, rel_here, p.kept.few, p.kept.long)) (λ o. nearer_yet a (p.undue j d' z (λ k. omega (arith, o, w k)))) (λ o. q);
        }

-- all rows are released, or none was due
pub released_all : {ahead : Outlook} {rows₀ : List RunRow} {upto : ℕ} {rows : List RunRow} {lapses₀ lapses : List ℕ} {due lapse first i : ℕ} → Between ahead rows₀ lapses₀ → upto ≡ cond (eqb (due_in ahead.clock ahead.due) 0) ahead.count 0 → Releasing ahead.clock ahead.count rows₀ upto rows lapses due lapse ahead.holding first i → upto ≤ i → rows ≡ step_one ahead.clock (take ahead.count rows₀) ++ drop ahead.count rows₀
released_all {ahead = ahead} {rows₀ = rows₀} {upto = upto} {rows = rows} {i = i} g u p h =
    each_all (released_of ahead.clock) (due_in ahead.clock ahead.due) ahead.count upto i rows rows₀ u h p.up_to p.same (λ c j d z. ahead_same ahead.clock (get_or rows₀ j d) g.kept.sized (nearer_yet c (g.undue j d z))) ∙ sym (each_is (released_of ahead.clock) ahead.count rows₀)

pub released_undue : {clock count : ℕ} {rows₀ : List RunRow} {upto : ℕ} {rows : List RunRow} {lapses : List ℕ} {due lapse : ℕ} {holding : Bool} {first i : ℕ} → Releasing clock count rows₀ upto rows lapses due lapse holding first i → upto ≤ i → AllUndue (tick clock) due count rows
released_undue p h = λ j d z. p.undue j d z (λ y. omega arith)

-- ── Step 2 ──

-- a row before `seek` is still to get the slot; none is where one got it
pub record Serving (clock count seek₀ : ℕ) (holding₀ : Bool) (rows₀ rows : List RunRow) (lapses : List ℕ) (due lapse : ℕ) (holding : Bool) (first seek : ℕ) : Type 0 where
  pub kept : Kept clock count rows lapses lapse holding first
  pub fits : seek ≤ count
  pub undue : AllUndue (tick clock) due count rows
  pub same : serve_in (may_work holding) seek rows ≡ serve_in (may_work holding₀) seek₀ rows₀

pub serving_none : {ahead : Outlook} {rows : List RunRow} {lapses : List ℕ} {seek : ℕ} → Within ahead rows lapses → seek ≤ ahead.count → Serving ahead.clock ahead.count seek ahead.holding rows rows lapses ahead.due ahead.lapse ahead.holding ahead.first seek
serving_none w u = record { kept = w.kept; fits = u; undue = w.undue; same = refl }

module _ {clock count seek₀ : ℕ} {holding₀ : Bool} {rows₀ rows : List RunRow} {lapses : List ℕ} {due lapse : ℕ} {holding : Bool} {first seek : ℕ} (p : Serving clock count seek₀ holding₀ rows₀ rows lapses due lapse holding first seek) where
  module _ (d : RunRow) (h : first < seek) where
    ser_here : first < count
    ser_here = omega (arith, h, p.fits)

    in_served : first < length rows
    in_served = omega (arith, ser_here, p.kept.few, p.kept.long)

    -- a row without work
    pub serving_idle : (get_or rows first d).left ≡ 0 → Serving clock count seek₀ holding₀ rows₀ rows lapses due lapse holding (first + 1) seek
    serving_idle e =
        record {
          kept = record { few = p.kept.few; long = p.kept.long; wide = p.kept.wide; sized = p.kept.sized; watched = p.kept.watched; front = front_idle holding p.kept.front d ser_here in_served e };
          fits = p.fits;
          undue = p.undue;
          same = p.same;
        }

    -- the row gets the slot, and is in its hold then or not
    pub serving_used : (v : RunRow) (l r f : ℕ) (t : Bool) → ((get_or rows first d).left ≡ 0 → ⊥) → v ≡ served_of (get_or rows first d) → Rests clock (due_in clock l) v → due_in clock r ≤ due_in clock lapse → due_in clock r ≤ due_in clock l → t ≡ in_hold v → f ≡ cond (holding && not t) 0 first → Serving clock count seek₀ holding₀ rows₀ (set rows first v) (set lapses first l) due r t f 0
    unfolding serve_in
    serving_used v l r f t b e q x y w z =
        record {
          kept = kept_stored p.kept first l r f t v ser_here q x y (front_served p.kept.front f t v ser_here in_served w z);
          fits = omega arith;
          undue = undue_stored (tick clock) due count rows first v d ser_here in_served (rw e (served_next (get_or rows first d))) p.undue;
          same = rw e (sym (serve_at (may_work holding) seek first rows d h in_served (front_rests holding p.kept.front) (front_works holding p.kept.front d ser_here b)) ∙ p.same);
        }

    -- its last unit, with no hold over it: it is in none then
    pub serving_last : (v : RunRow) (l r : ℕ) → ((get_or rows first d).left ≡ 0 → ⊥) → v ≡ served_of (get_or rows first d) → Rests clock (due_in clock l) v → due_in clock r ≤ due_in clock lapse → due_in clock r ≤ due_in clock l → holding || ltb 1 (get_or rows first d).left ≡ false → Serving clock count seek₀ holding₀ rows₀ (set rows first v) (set lapses first l) due r holding first 0
    serving_last v l r b e q x y z =
        let o = or_false holding (ltb 1 (get_or rows first d).left) z in
        let free : in_hold v ≡ false = rw e (served_free (get_or rows first d) (ltb-false 1 (get_or rows first d).left o.1)) in
        serving_used v l r first holding b e q x y (o.0 ∙ sym free) (rw o.0 refl)

    -- with more work than that and a hold of 1, which holds nothing
    pub serving_less : ltb 1 (get_or rows first d).left && ltb (get_or rows first d).planned.hold 2 ≡ true → Serving clock count seek₀ holding₀ rows₀ (set rows first (less_of (get_or rows first d))) lapses due lapse holding first 0
    serving_less t =
        let b = ltb-true 1 (get_or rows first d).left (and_left (ltb 1 (get_or rows first d).left) (ltb (get_or rows first d).planned.hold 2) t) in
        let k = ltb-true (get_or rows first d).planned.hold 2 (and_right (ltb 1 (get_or rows first d).left) (ltb (get_or rows first d).planned.hold 2) t) in
        let e = front_one holding p.kept.front d ser_here k in
        let q = p.kept.watched first d ser_here in
        rw (set-get_or lapses first 0) at
        (serving_used (less_of (get_or rows first d)) (get_or lapses first 0) lapse first holding (λ u. omega arith) (sym (served_less _ b)) (rests_less clock (due_in clock (get_or lapses first 0)) (get_or rows first d) b q.rests) (omega arith) q.soon (e ∙ sym (one_free (less_of (get_or rows first d)) k)) (rw e refl))

  pub serving_in : first < seek → first < 64
  serving_in h = omega (arith, h, p.fits, p.kept.few)

  pub serving_all : seek ≤ first → rows ≡ serve_in (may_work holding₀) seek₀ rows₀
  serving_all h = sym (serve_none (may_work holding) seek rows (λ i d z. front_rests holding p.kept.front i d (omega arith))) ∙ p.same

pub served_all : {ahead : Outlook} {rows₀ rows : List RunRow} {lapses₀ lapses : List ℕ} {lapse : ℕ} {holding : Bool} {first seek₀ seek : ℕ} (stolen : Bool) → Within ahead rows₀ lapses₀ → Serving ahead.clock ahead.count seek₀ ahead.holding rows₀ rows lapses ahead.due lapse holding first seek → seek₀ ≡ cond stolen 0 ahead.count → seek ≤ first → rows ≡ step_two stolen (take ahead.count rows₀) ++ drop ahead.count rows₀
served_all {ahead = ahead} {rows₀ = rows₀} stolen w p e h =
    serving_all p h ∙ rw e (sym (serve_is stolen ahead.count ahead.holding rows₀ (front_any ahead.holding w.kept.front (omega (arith, w.kept.few, w.kept.long)))))

-- ── Step 3 ──

-- the rows before i are aged
pub record Aging (clock count : ℕ) (rows₀ : List RunRow) (due : ℕ) (holding : Bool) (first upto : ℕ) (rows : List RunRow) (lapses : List ℕ) (lapse i : ℕ) : Type 0 where
  pub few : count ≤ 64
  pub long₀ : length rows₀ ≡ 64
  pub long : length rows ≡ 64
  pub wide : length lapses ≡ 64
  pub sized : clock < 2 ^ 32
  pub fits : upto ≤ count
  pub up_to : i ≤ upto
  pub same : rows ≡ each_in (aged_of (tick clock)) i rows₀
  pub later : (j : ℕ) (d : RunRow) → j < count → (j < upto → j < i) → Watch (tick clock) lapse (get_or lapses j 0) (get_or rows j d)
  pub still : (j : ℕ) (d : RunRow) → j < count → i ≤ j → Rests clock (due_in clock (get_or lapses j 0)) (get_or rows j d)
  pub undue : AllUndue (tick clock) due count rows
  pub front : Front holding count first rows

pub aging_none : {ahead : Outlook} {rows : List RunRow} {lapses : List ℕ} {upto : ℕ} → Within ahead rows lapses → upto ≡ cond (eqb (due_in ahead.clock ahead.lapse) 0) ahead.count 0 → Aging ahead.clock ahead.count rows ahead.due ahead.holding ahead.first upto rows lapses ahead.lapse 0
unfolding each_in
aging_none {ahead = ahead} {upto = upto} p u =
    record {
      few = p.kept.few;
      long₀ = p.kept.long;
      long = p.kept.long;
      wide = p.kept.wide;
      sized = p.kept.sized;
      fits = some_few (due_in ahead.clock ahead.lapse) ahead.count upto u;
      up_to = omega arith;
      same = refl;
      later = λ j d z y. watch_later p.kept.sized (none_calm (due_in ahead.clock ahead.lapse) ahead.count upto j u z y) (p.kept.watched j d z);
      still = λ j d z y. (p.kept.watched j d z).rests;
      undue = p.undue;
      front = p.kept.front;
    }

module _ {clock count : ℕ} {rows₀ : List RunRow} {due : ℕ} {holding : Bool} {first upto : ℕ} {rows : List RunRow} {lapses : List ℕ} {lapse i : ℕ} (p : Aging clock count rows₀ due holding first upto rows lapses lapse i) where
  module _ (d : RunRow) (h : i < upto) (r : ℕ) (a : due_in (tick clock) r ≤ due_in (tick clock) lapse) where
    old_here : i < count
    old_here = omega (arith, h, p.fits)

    in_rows : i < length rows
    in_rows = omega (arith, old_here, p.few, p.long)

    in_rows₀ : i < length rows₀
    in_rows₀ = omega (arith, old_here, p.few, p.long₀)

    in_lapses : i < length lapses
    in_lapses = omega (arith, old_here, p.few, p.wide)

    -- nothing lapses now
    pub aging_same : (due_in clock (get_or lapses i 0) ≡ 0 → ⊥) → due_in (tick clock) r ≤ due_in (tick clock) (get_or lapses i 0) → Aging clock count rows₀ due holding first upto rows lapses r (i + 1)
    aging_same z b =
        record {
          few = p.few;
          long₀ = p.long₀;
          long = p.long;
          wide = p.wide;
          sized = p.sized;
          fits = p.fits;
          up_to = omega arith;
          same = each_same (aged_of (tick clock)) i rows rows₀ d in_rows₀ p.same (rests_now clock (due_in clock (get_or lapses i 0)) (get_or rows i d) p.sized (omega (arith, z)) (p.still i d old_here (omega arith)));
          later = λ j d' x y. by_eq j d' x y (ℕ_discrete j i);
          still = λ j d' x y. p.still j d' x (omega arith);
          undue = p.undue;
          front = p.front;
        }
      where
        by_eq : (j : ℕ) (d' : RunRow) → j < count → (j < upto → j < i + 1) → Dec (j ≡ i) → Watch (tick clock) r (get_or lapses j 0) (get_or rows j d')
        by_eq j d' x y (yes o) = rw o (record { soon = b; rests = rests_on clock (get_or lapses i 0) (get_or rows i d') p.sized (omega (arith, z)) (p.still i d' old_here (omega arith)) })
        by_eq j d' x y (no o) = watch_nearer a (p.later j d' x (λ k. omega (arith, o, y k)))

    -- the row becomes v
    pub aging_stored : (v : RunRow) (l : ℕ) → v ≡ aged_of (tick clock) (get_or rows i d) → Rests (tick clock) (due_in (tick clock) l) v → due_in (tick clock) r ≤ due_in (tick clock) l → Aging clock count rows₀ due holding first upto (set rows i v) (set lapses i l) r (i + 1)
    unfolding aged_of
    aging_stored v l e q b =
        record {
          few = p.few;
          long₀ = p.long₀;
          long = length-set rows i v ∙ p.long;
          wide = length-set lapses i l ∙ p.wide;
          sized = p.sized;
          fits = p.fits;
          up_to = omega arith;
          same = each_stored (aged_of (tick clock)) i rows rows₀ v d in_rows₀ p.same e;
          later = λ j d' x y. both_at (Watch (tick clock) r) rows lapses i j v d' l in_rows in_lapses (λ o. watch_nearer a (p.later j d' x (λ k. omega (arith, o, y k)))) (λ o. record { soon = b; rests = q });
          still = λ j d' x y. both_at (λ m w. Rests clock (due_in clock m) w) rows lapses i j v d' l in_rows in_lapses (λ o. p.still j d' x (omega arith)) (λ o. absurd (omega (arith, o, y)));
          undue = undue_stored (tick clock) due count rows i v d old_here in_rows (rw e refl) p.undue;
          front = front_aged p.front i v d old_here in_rows (ap in_hold e ∙ aged_hold (tick clock) (get_or rows i d)) (ap (λ (o : RunRow). o.left) e);
        }

-- all rows are aged, or nothing lapsed
pub aged_all : {ahead : Outlook} {rows₀ : List RunRow} {lapses₀ : List ℕ} {upto : ℕ} {rows : List RunRow} {lapses : List ℕ} {lapse i : ℕ} → Within ahead rows₀ lapses₀ → upto ≡ cond (eqb (due_in ahead.clock ahead.lapse) 0) ahead.count 0 → Aging ahead.clock ahead.count rows₀ ahead.due ahead.holding ahead.first upto rows lapses lapse i → upto ≤ i → rows ≡ step_three (tick ahead.clock) (take ahead.count rows₀) ++ drop ahead.count rows₀
aged_all {ahead = ahead} {rows₀ = rows₀} {lapses₀ = lapses₀} {upto = upto} {rows = rows} {i = i} w u p h =
    each_all (aged_of (tick ahead.clock)) (due_in ahead.clock ahead.lapse) ahead.count upto i rows rows₀ u h p.up_to p.same (λ c n d z. rests_now ahead.clock (due_in ahead.clock (get_or lapses₀ n 0)) (get_or rows₀ n d) p.sized (omega (arith, c, (w.kept.watched n d z).soon)) (w.kept.watched n d z).rests) ∙ sym (each_is (aged_of (tick ahead.clock)) ahead.count rows₀)

pub aged_kept : {clock count : ℕ} {rows₀ : List RunRow} {due : ℕ} {holding : Bool} {first upto : ℕ} {rows : List RunRow} {lapses : List ℕ} {lapse i : ℕ} → Aging clock count rows₀ due holding first upto rows lapses lapse i → upto ≤ i → Between (record { clock = tick clock; count = count; due = due; lapse = lapse; holding = holding; first = first }) rows lapses
aged_kept p h =
    record {
      kept = record { few = p.few; long = p.long; wide = p.wide; sized = omega arith; watched = λ n d z. p.later n d z (λ y. omega arith); front = p.front };
      undue = p.undue;
    }
