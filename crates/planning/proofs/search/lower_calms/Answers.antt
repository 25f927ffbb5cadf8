-- `search::lower_calms` meets its contract. Assumes nothing.
use Rattle.std.proofs.Common.{arith, ◌≡◌, ◌+◌, ◌-◌, ◌<◌, ◌≤◌, length, get_or, ◌∙◌}
use Rattle.std.proofs.lemmas.List.{set-get_or}
use Rattle.planning.specs.Paces.{no_ahead}
use Rattle.planning.proofs.Calms.{lowered, lowered_first, lowered_next, lowered_last, standing, lowered_enough}
use Rattle.planning.proofs.search.lower_calms.Goals as goal

pub loop-at-init : goal.loop-at-init
loop-at-init c = lowered_first c.args.ahead.now c.args.period

pub returns-then-one-period : goal.returns-then-one-period
returns-then-one-period c =
    let os = c.args.ahead.now in
    let j = c.loop-at.at - 1 in
    let b : j < length os = omega (arith, c.loop-at.auto.at, c.loop-at-test.true) in
    let z : c.loop-at.at ≡ j + 1 = omega (arith, c.loop-at-test.true) in
    let i : c.loop-at.ahead ≡ lowered os c.args.period (j + 1) = rw (← z) c.loop-at.invariant in
    let s = standing os c.args.period j b in
    let l : (get_or os j no_ahead).calm ≤ c.args.period = rw (i, s) at c.if-one-period.true in
    set-get_or c.loop-at.ahead j no_ahead ∙ i ∙ lowered_enough os c.args.period j b c.requires l

pub loop-at-preserved : goal.loop-at-preserved
loop-at-preserved c =
    let os = c.args.ahead.now in
    let j = c.loop-at.at - 1 in
    let b : j < length os = omega (arith, c.loop-at.auto.at, c.loop-at-test.true) in
    let z : c.loop-at.at ≡ j + 1 = omega (arith, c.loop-at-test.true) in
    let i : c.loop-at.ahead ≡ lowered os c.args.period (j + 1) = rw (← z) c.loop-at.invariant in
    let s = standing os c.args.period j b in
    let l : c.args.period < (get_or os j no_ahead).calm = rw (i, s) at c.if-one-period.false in
    rw (i, s) (lowered_next os c.args.period j b l)

pub returns : goal.returns
returns c = c.loop-at.invariant ∙ lowered_last c.args.ahead.now c.args.period c.loop-at.at (omega (arith, c.loop-at-test.false))
