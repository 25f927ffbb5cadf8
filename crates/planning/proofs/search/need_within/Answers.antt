-- `search::need_within` meets its contract. Assumes nothing.
use Rattle.std.proofs.Common.{arith, ◌-◌, ◌*◌, ◌/◌, ◌≤◌, get_or}
use Rattle.std.proofs.lemmas.List.{take_all}
use Rattle.std.proofs.lemmas.List.Sums.{sum_by_more, sum_by-take-le}
use Rattle.planning.specs.Paces.{again, no_ahead}
use Rattle.planning.proofs.Paces.{brought_small}
use Rattle.planning.proofs.search.need_within.Goals as goal
use Rattle.planning.proofs.search.need_within.Goals.{After-job}

-- what the next object brings again
brought : (c : After-job) → (c.args.t - 1) * (get_or c.args.ahead.now c.loop-one.one-index no_ahead).pace / 1099511627776 * c.job.result ≤ 4294967295000000
brought c =
    let one = get_or c.args.ahead.now c.loop-one.one-index no_ahead in
    brought_small (c.args.t - 1) one.pace c.job.result (omega (arith, c.requires.within)) (c.requires.low c.loop-one.one-index c.loop-one-test.true) c.job.ensures.fits

pub overflow_mul-need : goal.overflow_mul-need
overflow_mul-need c = omega (arith, brought c)

pub overflow_add-need : goal.overflow_add-need
overflow_add-need c = omega (arith, brought c, c.loop-one.invariant.1, c.requires.few, c.loop-one-test.true)

pub returns-then-bound-need : goal.returns-then-bound-need
returns-then-bound-need c =
    let m = sum_by-take-le (again c.args.t) c.args.ahead.now c.loop-one.one-index in
    record { under = omega (arith, m, c.loop-one.invariant.0); same = λ h. absurd (omega (arith, c.if-bound-need.true)) }

pub loop-one-preserved : goal.loop-one-preserved
loop-one-preserved c =
    let m = sum_by_more (again c.args.t) c.args.ahead.now c.loop-one.one-index no_ahead c.loop-one-test.true in
    (rw c.job.ensures.value (omega (arith, m, c.loop-one.invariant.0)), omega (arith, brought (goal.at.loop-one-preserved c).After-job, c.loop-one.invariant.1))

pub returns : goal.returns
returns c =
    let e = take_all c.loop-one.one-index c.args.ahead.now (omega (arith, c.loop-one-test.false)) in
    let w = rw e at c.loop-one.invariant.0 in
    record { under = omega (arith, w); same = λ h. w }
