-- Rows that the rules call planned are planned in the theory: its words for plans mean the same. So demand 3 holds in true time.
-- Assumes planned rows, and acceptable states at the beginning.
use Rattle.std.specs.Prelude.{ℕ, zero, suc, ◌+◌, ◌-◌, ◌<◌, max, ◌≡◌, refl, List, [], ◌∷◌, map, length, take, drop, get_or}
use Rattle.std.proofs.Common.{ap, ◌∙◌, arith}
use Rattle.std.proofs.lemmas.List.{length-map}
use Rattle.rules.specs.declared.PlanRow.{PlanRow}
use Rattle.rules.specs.Deadlines.{no_plan_row}
use Rattle.rules.specs.Deadlines as rules
use Rattle.theory.specs.Model.{Object, object, Course, history, plans_of, plan_at, Quiet, Unstolen, Acceptable}
use Rattle.theory.specs.Model.{window_of, hold_behind, need_of, Planned}
use Rattle.theory.proofs.Track.{objects_length, objects_at}
use Rattle.theory.proofs.Plans.{balanced_meets}
use Rattle.theory.proofs.Theorems.{in_time, none_skipped, always_fresh}
use Rattle.promises.specs.Plans.{unplanned, PlannedRows}
use Rattle.promises.proofs.Sound.{planned_sound}
use Rattle.promises.specs.Encode.{object_of}
use Rattle.promises.proofs.Tied.{object_at}
use Rattle.promises.specs.InHistory.{KeptInHistory}

-- ── One word for one thing ──

-- `ceiling` and `brings` are the same by their definitions; so is what t slots can bring, and with it what an object needs
pub window_same : (ps : List PlanRow) (t : ℕ) → window_of (map object_of ps) t ≡ rules.window_of ps t
unfolding window_of
window_same [] t = refl
window_same (p ∷ ps) t = ap (λ n. rules.brings t p + n) (window_same ps t)

-- and the largest hold behind
pub hold_same : (ps : List PlanRow) → hold_behind (map object_of ps) ≡ rules.hold_behind (map unplanned ps)
unfolding hold_behind
hold_same [] = refl
hold_same (p ∷ ps) = ap (max (p.hold - 1)) (hold_same ps)

take_objects : (i : ℕ) (ps : List PlanRow) → take i (map object_of ps) ≡ map object_of (take i ps)
take_objects zero ps = refl
take_objects (suc i) [] = refl
take_objects (suc i) (p ∷ ps) = ap {B = List Object} (λ os. object_of p ∷ os) (take_objects i ps)

drop_objects : (i : ℕ) (ps : List PlanRow) → drop i (map object_of ps) ≡ map object_of (drop i ps)
drop_objects zero ps = refl
drop_objects (suc i) [] = refl
drop_objects (suc i) (p ∷ ps) = drop_objects i ps

pub planned_objects : (ps : List PlanRow) → PlannedRows ps → Planned (map object_of ps)
planned_objects ps pl i h =
    let l : i < length ps = rw (length-map ps object_of) at h in
    let p = get_or ps i no_plan_row in
    let ahead = take i ps in
    let behind = drop (suc i) ps in
    let m = pl i l in
    let s = planned_sound m in
    let balances : need_of (map object_of ahead) (p.cost + hold_behind (map object_of behind)) p.deadline ≡ p.deadline =
    omega (arith, window_same ahead p.deadline, hold_same behind, m.balances) in
    rw (object_at ps i l, take_objects i ps, drop_objects (suc i) ps)
    (balanced_meets (map object_of ahead) (map object_of behind) (object_of p) m.cost_pos s.within p.deadline balances (omega arith))

-- ── Demand 3 in true time ──

pub kept_in_history : (c : Course) (ps : List PlanRow) → plans_of c ≡ map object_of ps → PlannedRows ps → Acceptable c.from c.begin
    → (b e : ℕ) → Quiet (history c b) → Unstolen c.stolen b e → (i : ℕ) → i < length ps → KeptInHistory c i b e
kept_in_history c ps same pl ok b e q given i h =
    let planned : Planned (plans_of c) = rw same (planned_objects ps pl) in
    let l : i < length c.begin = rw (← objects_length c.begin, same, length-map ps object_of) h in
    let is : plan_at c i ≡ object_of (get_or ps i no_plan_row) =
    objects_at c.begin i l ∙ (ap (λ (os : List Object). object os i) same ∙ object_at ps i h) in
    let s = planned_sound (pl i h) in
    record {
      each_release = in_time c ok planned i l b e given q;
      no_skip = none_skipped c ok planned i l b e given q;
      fresh = always_fresh c ok planned i l b e given q (rw is (omega (arith, s.sums)));
    }
