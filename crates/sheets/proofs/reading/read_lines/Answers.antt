-- `sheets::reading::read_lines` meets its contract: after each turn the lines before the rest are read. Assumes nothing.
use Rattle.std.proofs.Common.{◌≡◌, ◌<◌, ◌∙◌, length, rules, tests, ap}
use Rattle.rules.specs.declared.Table.{Table}
use Rattle.rules.specs.Answers.{read_outcome}
use Rattle.rules.specs.StoredTable.{table_verdict}
use Rattle.sheets.proofs.Walked.{put_checked, walked_none, all_read, bad_line_law, line_shorter, walked_kept, walked_full}
use Rattle.sheets.proofs.reading.read_lines.Goals as goal
use Rattle.sheets.proofs.reading.read_lines.Goals.{then-count-lt-ROWS, else-count-lt-ROWS}

pub loop-rest-init : goal.loop-rest-init
loop-rest-init c = rw c.requires (walked_none c.args.bytes.now)

pub returns-in_default : goal.returns-in_default
returns-in_default c =
    let more : 0 < length c.loop-rest.rest.now = search (rules, tests) in
    rw c.at.ensures (ap read_outcome (bad_line_law c.loop-rest.invariant more c.in_default.ensures))

pub loop-rest-smaller : goal.loop-rest-smaller
loop-rest-smaller c = line_shorter _ _ _ c.in-Some.ensures

pub loop-rest-preserved : goal.loop-rest-preserved
loop-rest-preserved c =
    let w = c.loop-rest.invariant in
    let more : 0 < length c.loop-rest.rest.now = search (rules, tests) in
    elim c.if-count-lt-ROWS.branch [
      | then-count-lt-ROWS t ↦ walked_kept w more c.in-Some.ensures t.if-count-lt-ROWS.true (ap (λ (t : Table). t.rows) t.table-is)
      | else-count-lt-ROWS t ↦ walked_full w more c.in-Some.ensures t.if-count-lt-ROWS.false (ap (λ (t : Table). t.rows) t.table-is)
    ]

pub returns : goal.returns
returns c =
    let l = c.loop-rest in
    let none : length l.rest.now ≡ 0 = search (rules, tests) in
    let table : Table = record { count = l.count; rows = l.table.rows } in
    rw c.check_table.ensures (put_checked (table_verdict table) table ∙ ap read_outcome (all_read l.invariant none))
