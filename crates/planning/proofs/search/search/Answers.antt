-- `search::search` meets its contract: each round goes up, and passes over no number that balances. Assumes nothing.
use Rattle.std.proofs.Common.{arith}
use Rattle.std.proofs.lemmas.List.{length-take-le}
use Rattle.rules.proofs.Balance.{passed_first, passed_next, passed_found, bound_passed}
use Rattle.planning.specs.Paces.{need_again, UpTo}
use Rattle.planning.proofs.Paces.{need_grows, reached_all, low_take, up_more}
use Rattle.planning.proofs.search.search.Goals as goal
use Rattle.planning.proofs.search.search.Goals.{After-need_within-need}

-- a round's sum is that of all objects, up to the bound
whole : (c : After-need_within-need) → UpTo c.args.bound (need_again c.args.ahead.now c.args.start c.loop-t.t) c.need_within-need.result
whole c =
    let r = c.requires in
    reached_all c.args.ahead.now c.loop-t.t c.reach-far.result c.args.start c.args.bound c.need_within-need.result (omega (arith, c.if-bound-t.false, r.within)) r.steady c.reach-far.ensures c.need_within-need.ensures

pub loop-t-init : goal.loop-t-init
loop-t-init c =
    (c.requires.from.0, passed_first (need_again c.args.ahead.now c.args.start) c.args.start (λ s. omega arith), omega arith, omega arith)

pub reach-far-requires : goal.reach-far-requires
reach-far-requires c = c.loop-t.invariant.3

pub need_within-need-requires : goal.need_within-need-requires
need_within-need-requires c =
    let p = c.requires in
    let far = c.reach-far.ensures.up_to in
    record {
      few = omega (arith, p.few, length-take-le c.reach-far.result c.args.ahead.now far);
      low = low_take c.args.ahead.now c.reach-far.result far p.steady.low;
      from = p.from.1;
      within = (c.loop-t.invariant.0, omega (arith, c.if-bound-t.false, p.within));
    }

pub loop-t-smaller : goal.loop-t-smaller
loop-t-smaller c =
    let u = whole (goal.at.loop-t-smaller c).After-need_within-need in
    let m = up_more c.loop-t.t c.if-bound-t.false c.loop-t.invariant.1.under u in
    omega (arith, m, c.if-bound-t.false, c.if-need-t.false)

pub loop-t-preserved : goal.loop-t-preserved
loop-t-preserved c =
    let o = c.args in
    let f = need_again o.ahead.now o.start in
    let u = whole (goal.at.loop-t-preserved c).After-need_within-need in
    let m = up_more c.loop-t.t c.if-bound-t.false c.loop-t.invariant.1.under u in
    let g = passed_next f c.loop-t.t c.need_within-need.result (λ s h. omega (arith, need_grows o.ahead.now o.start h)) m u.under c.loop-t.invariant.1 in
    (omega (arith, m, c.loop-t.invariant.0), g, omega (arith, m, c.loop-t.invariant.2), c.reach-far.ensures.up_to)

pub returns-then-need-t : goal.returns-then-need-t
returns-then-need-t c =
    let o = c.args in
    let u = whole (goal.at.returns-then-need-t c).After-need_within-need in
    let e = u.same (omega (arith, c.if-need-t.true, c.if-bound-t.false)) in
    rw (c.if-need-t.true, passed_found o.bound c.loop-t.invariant.1 c.loop-t.invariant.0 c.if-bound-t.false (omega (arith, e, c.if-need-t.true)))

pub returns-then-bound-t : goal.returns-then-bound-t
returns-then-bound-t c = rw (bound_passed c.args.bound c.loop-t.invariant.1 (omega (arith, c.if-bound-t.true)))
