-- "h of 1 everywhere gives 01's numbers": document 01's own balance and step 2, as they were before request 6, and that the rules come to
-- them where every hold is 1; and that rows which agree, with holds of 1 behind them, hold the same. Assumes just that.
use Rattle.std.specs.Prelude.{ℕ, zero, suc, ◌+◌, ◌-◌, ◌/◌, ◌≤◌, max, ◌≡◌, refl, Bool, false, cond, List, [], ◌∷◌, ◌++◌, length, take, drop}
use Rattle.std.proofs.Common.{sym, ap, ◌∙◌, arith}
use Rattle.std.proofs.Math.Option.{Option, none, some}
use Rattle.rules.specs.declared.ObjectRow.{ObjectRow}
use Rattle.rules.specs.declared.PlanRow.{PlanRow}
use Rattle.rules.specs.Answers.{Planned}
use Rattle.rules.specs.declared.RunRow.{RunRow}
use Rattle.rules.specs.declared.Table.{Table}
use Rattle.rules.specs.declared.Refusal.TheVariants.{NoDeadline}
use Rattle.rules.specs.StoredTable.{table_verdict}
use Rattle.rules.specs.Order.{in_order}
use Rattle.rules.specs.Deadlines.{hold_behind, smallest_within, plan_row, refused_plan, accepted_plan, where_found, plan_by, on_accepted, plan_of}
use Rattle.rules.specs.RunState.{has_work, in_hold, any}
use Rattle.rules.specs.Run.{serve_first, may_work, step_two}
use Rattle.rules.proofs.Lists.{Every}
use Rattle.rules.proofs.Holds.{one_free}

-- ── Before request 6 ──

-- every h is 1
abbrev pub HoldsOne : List ObjectRow → Type 0
HoldsOne rows = Every (λ (r : ObjectRow). r.hold ≡ 1) rows

-- "the smallest whole t, at least 1, with t = (its cost) + the sum over the objects j ahead of it": no hold is added
abbrev pub plan01_by : (ObjectRow → ℕ → PlanRow) → List PlanRow → List ObjectRow → Planned
plan01_by make ahead [] = accepted_plan ahead
plan01_by make ahead (r ∷ rs) =
    where_found (smallest_within ahead r.cost (r.validity / 2))
    (λ t. plan01_by make (ahead ++ (make r t ∷ [])) rs)
    (refused_plan NoDeadline (length ahead))

abbrev pub plan01 : Table → Planned
plan01 table = on_accepted (table_verdict table) (plan01_by plan_row [] (in_order table.rows table.count))

-- "If the slot is not stolen, the first object with work left does one unit."
abbrev pub step01 : Bool → List RunRow → List RunRow
step01 stolen rows = cond stolen rows (serve_first has_work rows)

-- ── What is behind ──

pub ones_none : (rows : List ObjectRow) → HoldsOne rows → hold_behind rows ≡ 0
ones_none [] h = refl
ones_none (r ∷ rs) h = omega (arith, h.0, ones_none rs h.1)

ones_behind : (k : ℕ) (rows : List ObjectRow) → HoldsOne (drop k rows) → hold_behind rows ≡ hold_behind (take k rows)
ones_behind zero rows h = ones_none rows h
ones_behind (suc k) [] h = refl
ones_behind (suc k) (r ∷ rs) h = ap (max (r.hold - 1)) (ones_behind k rs h)

-- rows that agree up to k, and hold 1 from there on, hold the same behind each place up to k
pub same_hold : (j k : ℕ) (rows rows' : List ObjectRow) → j ≤ k → take k rows ≡ take k rows' → HoldsOne (drop k rows)
    → HoldsOne (drop k rows') → hold_behind (drop j rows) ≡ hold_behind (drop j rows')
same_hold zero k rows rows' l e h h' = ones_behind k rows h ∙ (ap hold_behind e ∙ sym (ones_behind k rows' h'))
same_hold (suc j) zero rows rows' l e h h' = absurd (omega arith)
same_hold (suc j) (suc k) [] [] l e h h' = refl
same_hold (suc j) (suc k) [] (r ∷ rs) l e h h' = let z : ◌≡◌ {A = ℕ} 0 1 = cc in absurd (omega arith)
same_hold (suc j) (suc k) (r ∷ rs) [] l e h h' = let z : ◌≡◌ {A = ℕ} 0 1 = cc in absurd (omega arith)
same_hold (suc j) (suc k) (r ∷ rs) (r' ∷ rs') l e h h' =
    let f : take k rs ≡ take k rs' = cc in
    same_hold j k rs rs' (omega arith) f h h'

-- ── The plan ──

-- of More-Less and of Half-Half
pub planned_01 : (make : ObjectRow → ℕ → PlanRow) (ahead : List PlanRow) (rows : List ObjectRow) → HoldsOne rows
    → plan_by make ahead rows ≡ plan01_by make ahead rows
planned_01 make ahead [] h = refl
planned_01 make ahead (r ∷ rs) h =
    let own : r.cost + hold_behind rs ≡ r.cost = omega (arith, ones_none rs h.1) in
    rw own (by_found (smallest_within ahead r.cost (r.validity / 2)) (λ t. planned_01 make (ahead ++ (make r t ∷ [])) rs h.1))
  where
    by_found : (d : Option ℕ) → ((t : ℕ) → plan_by make (ahead ++ (make r t ∷ [])) rs ≡ plan01_by make (ahead ++ (make r t ∷ [])) rs)
        → where_found d (λ t. plan_by make (ahead ++ (make r t ∷ [])) rs) (refused_plan NoDeadline (length ahead))
        ≡ where_found d (λ t. plan01_by make (ahead ++ (make r t ∷ [])) rs) (refused_plan NoDeadline (length ahead))
    by_found none ih = refl
    by_found (some t) ih = ih t

pub plan_is_01 : (table : Table) → HoldsOne (in_order table.rows table.count) → plan_of table ≡ plan01 table
plan_is_01 table h = ap (on_accepted (table_verdict table)) (planned_01 plan_row [] (in_order table.rows table.count) h)

-- ── Step 2 ──

none_held : (rows : List RunRow) → Every (λ (row : RunRow). row.planned.hold ≡ 1) rows → any in_hold rows ≡ false
unfolding any
none_held [] h = refl
none_held (r ∷ rs) h = let one = h.0 in rw (one_free r (omega arith)) (none_held rs h.1)

pub step_is_01 : (stolen : Bool) (rows : List RunRow) → Every (λ (row : RunRow). row.planned.hold ≡ 1) rows
    → step_two stolen rows ≡ step01 stolen rows
unfolding may_work
step_is_01 stolen rows h = rw (none_held rows h)
