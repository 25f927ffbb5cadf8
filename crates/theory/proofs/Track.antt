-- The history object by object: each object by itself, under the slots that it gets, whatever rule hands them out. Assumes nothing.
use Rattle.std.specs.Prelude.{ℕ, zero, suc, ◌+◌, ◌<◌, ◌≡◌, refl, Bool, true, false, not, cond, ◌&&◌, List, [], ◌∷◌, length, take, drop}
use Rattle.std.proofs.Common.{sym, ap, ap₂, ◌∙◌, inl, inr, not-suc-le-zero, le_of_suc-le-suc}
use Rattle.theory.specs.Model.{Object, State, object, at, objects, begun, skipped, release, releases, finished, one_less, worked}
use Rattle.theory.specs.Model.{in_hold, may_work, any, work_first, step_two, Course, history, state, step_one, plans_of}
use Rattle.theory.proofs.Cases.{yes_or_no, release_holds, work_holds}

-- what decides one object's history: the instant at which it begins, the state then, the works given, and the slots that it gets
pub record Alone : Type 0 where
  pub from : ℕ
  pub begin : State
  pub works : ℕ → ℕ
  pub turns : ℕ → Bool

abbrev pub alone : ℕ → State → (ℕ → ℕ) → (ℕ → Bool) → Alone
alone b w a s = record { from = b; begin = w; works = a; turns = s }

unfoldable pub serve : Bool → State → State
unfolding worked
serve v w = cond v (worked w) w

-- its state before the slot t
unfoldable pub track : Alone → ℕ → State
unfolding release serve
track o zero = o.begin
track o (suc t) = serve (o.turns t) (release (o.from + t) (o.works t) (track o t))

-- ── What a unit and a release leave as it is ──

-- what a unit keeps, a slot that may be another's keeps
pub serve_holds : (P : State → Type 0) (v : Bool) (w : State)
    → P w → (w.left ≡ 1 → P (finished w)) → (1 < w.left → P (one_less w)) → P (serve v w)
unfolding serve
serve_holds P true w p last more = work_holds P w (λ e. p) last more
serve_holds P false w p last more = p

pub serve_keeps : (v : Bool) (w : State) → ((serve v w).planned ≡ w.planned) × ((serve v w).next ≡ w.next) × ((serve v w).skips ≡ w.skips)
unfolding finished one_less
serve_keeps v w =
    serve_holds (λ u. (u.planned ≡ w.planned) × (u.next ≡ w.next) × (u.skips ≡ w.skips)) v w
    (refl, refl, refl) (λ e. (refl, refl, refl)) (λ e. (refl, refl, refl))

release_planned : (now g : ℕ) (w : State) → (release now g w).planned ≡ w.planned
unfolding begun skipped
release_planned now g w = release_holds (λ u. u.planned ≡ w.planned) now g w (λ d. refl) (λ d e. refl) (λ d e. refl)

pub track_planned : (o : Alone) (t : ℕ) → (track o t).planned ≡ o.begin.planned
unfolding track
track_planned o zero = refl
track_planned o (suc t) =
    let now = o.from + t in
    (serve_keeps (o.turns t) (release now (o.works t) (track o t))).0 ∙ (release_planned now (o.works t) (track o t) ∙ track_planned o t)

-- ── A list of objects ──

-- where a and s tell the works and the turns by place
unfoldable pub tracks : ℕ → List State → (ℕ → ℕ → ℕ) → (ℕ → ℕ → Bool) → ℕ → List State
unfolding track
tracks b [] a s t = []
tracks b (w ∷ ws) a s t = track (alone b w (a 0) (s 0)) t ∷ tracks b ws (λ i. a (suc i)) (λ i. s (suc i)) t

-- whose turn it is among these states: does the one at place i do the unit?
unfoldable pub first_turn : (State → Bool) → List State → ℕ → Bool
first_turn p [] i = false
first_turn p (w ∷ ws) zero = p w
first_turn p (w ∷ ws) (suc i) = not (p w) && first_turn p ws i

unfoldable pub turn_in : Bool → List State → ℕ → Bool
unfolding first_turn
turn_in true ws i = false
turn_in false ws i = first_turn (may_work (any in_hold ws)) ws i

unfoldable pub turn : Course → ℕ → ℕ → Bool
unfolding turn_in
turn c i t = turn_in (c.stolen t) (step_one c t) i

idle_tracks : (b : ℕ) (ws : List State) (a : ℕ → ℕ → ℕ) (s : ℕ → ℕ → Bool) (t : ℕ) → ((i : ℕ) → s i t ≡ false)
    → releases (b + t) (λ j. a j t) (tracks b ws a s t) ≡ tracks b ws a s (suc t)
unfolding releases tracks
idle_tracks b [] a s t h = refl
idle_tracks b (w ∷ ws) a s t h =
    let u = release (b + t) (a 0 t) (track (alone b w (a 0) (s 0)) t) in
    let ih = idle_tracks b ws (λ i. a (suc i)) (λ i. s (suc i)) t (λ i. h (suc i)) in
    rw (h 0) (ap {B = List State} (λ l. u ∷ l) ih)

first_tracks : (b : ℕ) (ws : List State) (a : ℕ → ℕ → ℕ) (s : ℕ → ℕ → Bool) (t : ℕ) (p : State → Bool)
    → ((i : ℕ) → s i t ≡ first_turn p (releases (b + t) (λ j. a j t) (tracks b ws a s t)) i)
    → work_first p (releases (b + t) (λ j. a j t) (tracks b ws a s t)) ≡ tracks b ws a s (suc t)
unfolding releases tracks first_turn work_first
first_tracks b [] a s t p h = refl
first_tracks b (w ∷ ws) a s t p h =
    let u = release (b + t) (a 0 t) (track (alone b w (a 0) (s 0)) t) in
    let a' : ℕ → ℕ → ℕ = λ i. a (suc i) in
    let s' : ℕ → ℕ → Bool = λ i. s (suc i) in
    elim (yes_or_no (p u)) [
      | inl y ↦ rw (h 0, y) (ap {B = List State} (λ l. worked u ∷ l) (idle_tracks b ws a' s' t (λ i. rw y at (h (suc i)))))
      | inr n ↦ rw (h 0, n) (ap {B = List State} (λ l. u ∷ l) (first_tracks b ws a' s' t p (λ i. rw n at (h (suc i)))))
    ]

step_tracks : (b : ℕ) (ws : List State) (a : ℕ → ℕ → ℕ) (s : ℕ → ℕ → Bool) (t : ℕ) (v : Bool)
    → ((i : ℕ) → s i t ≡ turn_in v (releases (b + t) (λ j. a j t) (tracks b ws a s t)) i)
    → step_two v (releases (b + t) (λ j. a j t) (tracks b ws a s t)) ≡ tracks b ws a s (suc t)
unfolding step_two turn_in
step_tracks b ws a s t true h = idle_tracks b ws a s t h
step_tracks b ws a s t false h = first_tracks b ws a s t (may_work (any in_hold (releases (b + t) (λ j. a j t) (tracks b ws a s t)))) h

tracks_zero : (b : ℕ) (ws : List State) (a : ℕ → ℕ → ℕ) (s : ℕ → ℕ → Bool) → ws ≡ tracks b ws a s 0
unfolding tracks
tracks_zero b [] a s = refl
tracks_zero b (w ∷ ws) a s = ap {B = List State} (λ l. w ∷ l) (tracks_zero b ws (λ i. a (suc i)) (λ i. s (suc i)))

-- the history is the list of its objects' own
pub history_tracks : (c : Course) (t : ℕ) → history c t ≡ tracks c.from c.begin c.works (turn c) t
unfolding history turn
history_tracks c zero = tracks_zero c.from c.begin c.works (turn c)
history_tracks c (suc t) =
    let ih = history_tracks c t in
    let step : List State → List State = λ ws. releases (c.from + t) (λ j. c.works j t) ws in
    ap (λ ws. step_two (c.stolen t) (step ws)) ih
    ∙ step_tracks c.from c.begin c.works (turn c) t (c.stolen t) (λ i. ap (λ ws. turn_in (c.stolen t) (step ws) i) ih)

pub take_tracks : (k b : ℕ) (ws : List State) (a : ℕ → ℕ → ℕ) (s : ℕ → ℕ → Bool) (t : ℕ)
    → take k (tracks b ws a s t) ≡ tracks b (take k ws) a s t
unfolding tracks
take_tracks zero b ws a s t = refl
take_tracks (suc k) b [] a s t = refl
take_tracks (suc k) b (w ∷ ws) a s t =
    ap {B = List State} (λ l. track (alone b w (a 0) (s 0)) t ∷ l) (take_tracks k b ws (λ i. a (suc i)) (λ i. s (suc i)) t)

-- the object at place i, by itself
abbrev pub alone_at : Course → ℕ → Alone
alone_at c i = alone c.from (at c.begin i) (c.works i) (turn c i)

track_at : (b : ℕ) (ws : List State) (a : ℕ → ℕ → ℕ) (s : ℕ → ℕ → Bool) (t i : ℕ) → i < length ws
    → at (tracks b ws a s t) i ≡ track (alone b (at ws i) (a i) (s i)) t
unfolding tracks
track_at b [] a s t i h = absurd (not-suc-le-zero h)
track_at b (w ∷ ws) a s t zero h = refl
track_at b (w ∷ ws) a s t (suc i) h = track_at b ws (λ j. a (suc j)) (λ j. s (suc j)) t i (le_of_suc-le-suc h)

pub state_track : (c : Course) (i t : ℕ) → i < length c.begin → state c i t ≡ track (alone_at c i) t
state_track c i t h = rw (history_tracks c t) (track_at c.from c.begin c.works (turn c) t i h)

-- ── The objects stay ──

tracks_objects : (b : ℕ) (ws : List State) (a : ℕ → ℕ → ℕ) (s : ℕ → ℕ → Bool) (t : ℕ) → objects (tracks b ws a s t) ≡ objects ws
unfolding tracks objects
tracks_objects b [] a s t = refl
tracks_objects b (w ∷ ws) a s t =
    ap₂ (λ p ps. p ∷ ps) (track_planned (alone b w (a 0) (s 0)) t) (tracks_objects b ws (λ i. a (suc i)) (λ i. s (suc i)) t)

pub history_objects : (c : Course) (t : ℕ) → objects (history c t) ≡ plans_of c
history_objects c t = ap objects (history_tracks c t) ∙ tracks_objects c.from c.begin c.works (turn c) t

pub objects_take : (k : ℕ) (ws : List State) → objects (take k ws) ≡ take k (objects ws)
unfolding objects
objects_take zero ws = refl
objects_take (suc k) [] = refl
objects_take (suc k) (w ∷ ws) = ap {B = List Object} (λ q. w.planned ∷ q) (objects_take k ws)

pub objects_drop : (k : ℕ) (ws : List State) → objects (drop k ws) ≡ drop k (objects ws)
unfolding objects
objects_drop zero ws = refl
objects_drop (suc k) [] = refl
objects_drop (suc k) (w ∷ ws) = objects_drop k ws

pub objects_length : (ws : List State) → length (objects ws) ≡ length ws
unfolding objects
objects_length [] = refl
objects_length (w ∷ ws) = ap suc (objects_length ws)

pub objects_at : (ws : List State) (i : ℕ) → i < length ws → (at ws i).planned ≡ object (objects ws) i
unfolding objects
objects_at [] i h = absurd (not-suc-le-zero h)
objects_at (w ∷ ws) zero h = refl
objects_at (w ∷ ws) (suc i) h = objects_at ws i (le_of_suc-le-suc h)

pub history_length : (c : Course) (t : ℕ) → length (history c t) ≡ length c.begin
history_length c t = sym (objects_length (history c t)) ∙ (ap length (history_objects c t) ∙ objects_length c.begin)
