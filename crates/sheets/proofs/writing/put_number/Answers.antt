-- `sheets::writing::put_number` meets its contract: each turn puts the last digit that is left. Assumes nothing.
use Rattle.std.proofs.Common.{◌/◌, refl, arith}
use Rattle.rules.proofs.Digits.{decimal_longer, decimal_few}
use Rattle.sheets.proofs.Printed.{putting_next, putting_done}
use Rattle.sheets.proofs.writing.put_number.Goals as goal

pub overflow_sub-last : goal.overflow_sub-last
overflow_sub-last c = omega (arith, c.width.ensures.digits, (decimal_few c.args.x).0)

pub loop-y-init : goal.loop-y-init
loop-y-init c =
    let w = c.width.ensures.digits in
    let f = (decimal_few c.args.x).0 in
    record { place = omega (arith, w, f); within = omega (arith, w, f, c.requires); long = refl; so_far = refl }

pub overflow_sub-last-in-loop-y : goal.overflow_sub-last-in-loop-y
overflow_sub-last-in-loop-y c = omega (arith, c.loop-y-test.true, c.loop-y.invariant.place, decimal_longer c.loop-y.y c.loop-y-test.true, (decimal_few (c.loop-y.y / 10)).0)

pub loop-y-preserved : goal.loop-y-preserved
loop-y-preserved c = putting_next c.loop-y.invariant c.loop-y-test.true

pub returns-clause-bytes : goal.returns-clause-bytes
returns-clause-bytes c = putting_done c.loop-y.invariant (omega (arith, c.loop-y-test.false))
