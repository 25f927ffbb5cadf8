-- `stepping::acceptance::holding` meets its contract. Assumes nothing.
use Rattle.std.proofs.Common.{◌≡◌, ℕ, ◌-◌, ◌<◌, ◌≤◌, List, ap, ◌∙◌, length, get_or, drop, arith, get_or-take, take_all, length-drop, length-take-le}
use Rattle.rules.specs.declared.RunRow.{RunRow}
use Rattle.rules.specs.declared.Run.{Run}
use Rattle.rules.specs.RunState.{every, row_ok, row_none, in_hold, used_rows}
use Rattle.rules.specs.Run.{no_run_row}
use Rattle.stepping.proofs.Checked.{too_few, too_many, used_next, checked}
use Rattle.stepping.proofs.acceptance.holding.Goals as goal
use Rattle.stepping.proofs.acceptance.holding.Goals.{then-run-lt1-via-then-run-lt1, then-run-lt1-via-else-run-lt1+then-run-gt-ROWS}

pub returns-then-run-lt1 : goal.returns-then-run-lt1
returns-then-run-lt1 c =
    elim c.then-run-lt1.branch [
      | then-run-lt1-via-then-run-lt1 w ↦ too_few c.args.run.now w.if-run-lt1.true
      | then-run-lt1-via-else-run-lt1+then-run-gt-ROWS w ↦ too_many c.args.run.now w.if-run-gt-ROWS.true
    ]

-- the rows in use are the first of the run's rows
used_count : (run : Run) (l : List RunRow) → run.count ≤ 64 → length run.rows ≡ 64 → l ≡ used_rows run → length l ≡ run.count
used_count run l h k e = ap length e ∙ length-take-le run.count run.rows (omega arith)

used_row : (run : Run) (l : List RunRow) (i : ℕ) (d : RunRow) → i < run.count → l ≡ used_rows run → get_or l i d ≡ get_or run.rows i d
used_row run l i d h e = ap (λ m. get_or m i d) e ∙ get_or-take run.count run.rows i d h

pub loop-i-preserved : goal.loop-i-preserved
loop-i-preserved c =
    let run = c.args.run.now in
    let s = c.loop-i in
    let n = used_count run c.used-row-items.result.now s.invariant.few s.invariant.long c.used-row-items.ensures in
    let row = used_row run c.used-row-items.result.now s.i no_run_row (omega arith) c.used-row-items.ensures in
    rw row (used_next s.invariant _ (omega arith) (c.row_ok.ensures ∙ ap (row_ok run.clock) row) (c.in_hold-held.ensures ∙ ap in_hold row))

pub returns : goal.returns
returns c =
    let run = c.args.run.now in
    let s = c.loop-i in
    let n = used_count run c.used-row-items.result.now s.invariant.few s.invariant.long c.used-row-items.ensures in
    let beyond = take_all (64 - run.count) (drop run.count run.rows) (omega (arith, length-drop run.count run.rows, s.invariant.long)) in
    c.then_some.ensures ∙ checked s.invariant (omega arith) _ _ (c.all_none-none.ensures ∙ ap (every row_none) beyond) c.distinct-differ.ensures
