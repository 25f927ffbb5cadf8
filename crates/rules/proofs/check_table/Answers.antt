-- `rules::check_table` meets its contract: each row that passes goes on, and the first that does not decides. Assumes nothing.
use Rattle.std.proofs.Common.{sym, ◌∙◌, rules, take_all}
use Rattle.std.proofs.lemmas.Option.{none-some, same_Some}
use Rattle.rules.proofs.Checks.{decided, has_at, has_next, row_out, id_again, passed_next}
use Rattle.rules.proofs.Outcomes.{accepted, refused}
use Rattle.rules.proofs.check_table.Goals.{else-records-test, then-records-test+in_ok-check_row+then-loop-before-test+then-before-row}
use Rattle.rules.proofs.check_table.Goals as goal

pub returns-in_err-check_row : goal.returns-in_err-check_row
returns-in_err-check_row c =
    let v = refused _ _ _ (sym c.check_row.ensures ∙ c.in_err-check_row.was) in
    let out = row_out c.records.invariant.passed c.records-test.true v in
    rw (decided c.args.table c.if-table-lt1.false c.if-table-gt-ROWS.false (rw c.records.invariant.used at out)) (search rules)

pub loop-before-preserved : goal.loop-before-preserved
loop-before-preserved c =
    record { new = has_next _ c.loop-before.before-index _ c.loop-before-test.true c.loop-before.invariant.new c.if-before-row.false; none_yet = c.loop-before.invariant.none_yet }

pub records-preserved : goal.records-preserved
records-preserved c =
    let v = accepted _ _ _ (sym c.check_row.ensures ∙ c.in_ok-check_row.was) in
    let new = rw (take_all _ _ c.loop-before-test.false) at c.loop-before.invariant.new in
    record { passed = passed_next c.records.invariant.passed c.records-test.true v new; used = c.records.invariant.used; none_yet = c.loop-before.invariant.none_yet }

pub returns-in-Some : goal.returns-in-Some
returns-in-Some c =
    elim c.records-test.branch [
      | else-records-test w ↦ absurd (none-some c.in-Some.at (sym c.records.invariant.none_yet ∙ (sym w.repeated-is ∙ c.in-Some.is)))
      | then-records-test+in_ok-check_row+then-loop-before-test+then-before-row w ↦
          let v = accepted _ _ _ (sym w.check_row.ensures ∙ w.in_ok-check_row.was) in
          let has = has_at _ w.loop-before.before-index _ w.loop-before-test.true w.if-before-row.true in
          let out = id_again c.records.invariant.passed w.records-test.true v has in
          let at = same_Some _ _ (sym c.in-Some.is ∙ w.repeated-is) in
          rw (decided c.args.table c.if-table-lt1.false c.if-table-gt-ROWS.false (rw c.records.invariant.used at out), sym at) (search rules)
    ]
