-- The run of document 01 itself: every hold is 1, and every work is the cost. Assumes of these what each statement says.
use Rattle.std.specs.Prelude.{ℕ, zero, suc, ◌+◌, ◌<◌, ◌≡◌, refl, Bool, true, false, cond, ◌&&◌, leb, length}
use Rattle.std.proofs.Common.{arith}
use Rattle.theory.specs.Model.{State, at, actual, begun, skipped, release, finished, one_less, has_work, work_first, step_two}
use Rattle.theory.specs.Model.{Course, history, state, step_one, plans_of, plan_at}
use Rattle.theory.proofs.Cases.{release_holds}
use Rattle.theory.proofs.Slot.{releases_hold}
use Rattle.theory.proofs.Track.{Alone, serve, serve_holds, track, track_planned, alone_at, state_track, history_objects}
use Rattle.theory.specs.Prefix.{Unheld}
use Rattle.theory.proofs.Prefix.{unheld_none}
use Rattle.theory.specs.Plain.{Whole}

-- "If the slot is not stolen, the first object with work left does one unit."
pub plain_slot : (c : Course) → Unheld 0 (plans_of c)
    → (t : ℕ) → history c (suc t) ≡ cond (c.stolen t) (step_one c t) (work_first has_work (step_one c t))
unfolding history step_two
plain_slot c h t =
    let none = unheld_none 0 (history c t) (rw (history_objects c t) h) in
    rw (releases_hold 0 (c.from + t) (λ i. c.works i t) (history c t), none) refl

-- "its job begins with work equal to its cost"
pub plain_work : (cost : ℕ) → actual cost cost ≡ cost
unfolding actual
plain_work cost = same (leb 1 cost && leb cost cost)
  where
    same : (v : Bool) → cond v cost cost ≡ cost
    same true = refl
    same false = refl

release_whole : (now g : ℕ) (w : State) → actual w.planned.cost g ≡ w.planned.cost → Whole w → Whole (release now g w)
unfolding begun skipped
release_whole now g w e h = release_holds Whole now g w (λ d. h) (λ d z l. e) (λ d z. h)

serve_whole : (v : Bool) (w : State) → Whole w → Whole (serve v w)
unfolding finished one_less
serve_whole v w h = serve_holds Whole v w h (λ e l. absurd (omega arith)) (λ e l. h (omega arith))

track_whole : (o : Alone) → ((t : ℕ) → actual o.begin.planned.cost (o.works t) ≡ o.begin.planned.cost) → Whole o.begin
    → (t : ℕ) → Whole (track o t)
unfolding track
track_whole o e h zero = h
track_whole o e h (suc t) =
    let now = o.from + t in
    let u = release now (o.works t) (track o t) in
    serve_whole (o.turns t) u (release_whole now (o.works t) (track o t) (rw (track_planned o t) (e t)) (track_whole o e h t))

pub history_whole : (c : Course) (i : ℕ) → i < length c.begin
    → ((t : ℕ) → actual (plan_at c i).cost (c.works i t) ≡ (plan_at c i).cost) → Whole (at c.begin i) → (t : ℕ) → Whole (state c i t)
history_whole c i l e h t = rw (state_track c i t l) (track_whole (alone_at c i) e h t)
