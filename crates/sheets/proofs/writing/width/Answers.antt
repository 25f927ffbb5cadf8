-- `sheets::writing::width` meets its contract: each turn takes one digit off. Assumes nothing.
use Rattle.std.proofs.Common.{ℕ, ◌≡◌, List, ap, arith, rules, length}
use Rattle.rules.specs.Sheet.{decimal}
use Rattle.rules.proofs.Digits.{decimal_small, decimal_longer, decimal_at_most}
use Rattle.sheets.proofs.writing.width.Goals as goal

pub overflow_add-digits : goal.overflow_add-digits
overflow_add-digits c = omega (arith, c.loop-y.invariant, decimal_at_most 9 c.args.x (search rules))

pub loop-y-preserved : goal.loop-y-preserved
loop-y-preserved c = omega (arith, c.loop-y.invariant, decimal_longer c.loop-y.y c.loop-y-test.true)

pub returns : goal.returns
returns c =
    let last : length (decimal c.loop-y.y) ≡ 1 = ap (λ (s : List ℕ). length s) (decimal_small c.loop-y.y (omega (arith, c.loop-y-test.false))) in
    record { digits = omega (arith, last, c.loop-y.invariant); few = omega (arith, last, c.loop-y.invariant, decimal_at_most 9 c.args.x (search rules)) }
