-- `running::lapses::lapse_of` meets its contract. Assumes nothing.
use Rattle.std.proofs.Common.{arith}
use borrow.Author.Tests.{lt-leb}
use Rattle.running.proofs.Ahead.{due_of_sum, aged_same, aged_idle, aged_lapsed}
use Rattle.running.proofs.lapses.lapse_of.Goals as goal
use Rattle.running.proofs.lapses.lapse_of.Goals.{then-row-eq0-via-then-row-eq0, then-row-eq0-via-else-row-eq0+then-row}

pub returns-then-row-eq0 : goal.returns-then-row-eq0
returns-then-row-eq0 c =
    λ e h.
    let stored = c.stored_lasts-stored.ensures e (due_of_sum _ _ e (omega (arith, c.ranges)) h) in
    elim c.then-row-eq0.branch [
      | then-row-eq0-via-then-row-eq0 w ↦ aged_idle _ _ stored w.if-row-eq0.true
      | then-row-eq0-via-else-row-eq0+then-row w ↦ aged_lapsed _ _ stored w.if-row.true
    ]

pub returns : goal.returns
returns c =
    λ e h.
    let k = due_of_sum _ _ e (omega (arith, c.ranges)) h in
    aged_same _ _
    (c.stored_lasts-stored.ensures e (omega (arith, k, c.min.ensures)))
    (λ n. simp (lt-leb _ _ (c.lasts-hand.ensures e (omega (arith, k, c.min.ensures)))))
