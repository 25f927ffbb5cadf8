-- `sheets::reading::go_on` meets its contract: each turn takes one digit more. Assumes nothing.
use Rattle.std.proofs.Common.{sym, ◌∙◌}
use Rattle.sheets.proofs.Fields.{went_whole, went_far}
use Rattle.sheets.proofs.reading.go_on.Goals as goal
use Rattle.sheets.proofs.reading.go_on.Goals.{then-not-is_ascii_digit-via-then-not-is_ascii_digit, then-not-is_ascii_digit-via-else-not-is_ascii_digit+then-from-value}

pub returns-then-not-is_ascii_digit : goal.returns-then-not-is_ascii_digit
returns-then-not-is_ascii_digit c =
    let a = c.args in
    let l = c.loop-at in
    elim c.then-not-is_ascii_digit.branch [
      | then-not-is_ascii_digit-via-then-not-is_ascii_digit w ↦ went_whole a.limit a.first a.bytes.now l.value l.at l.invariant c.loop-at-test.true (sym c.is_ascii_digit.ensures.value ∙ w.if-not-is_ascii_digit.true)
      | then-not-is_ascii_digit-via-else-not-is_ascii_digit+then-from-value w ↦ went_far a.limit a.first a.bytes.now l.value l.at l.invariant (rw w.from.ensures at w.if-from-value.true)
    ]
