-- `running::advancing::advance` meets its contract. Assumes nothing.
use Rattle.std.proofs.Common.{sym, ◌∙◌}
use Rattle.stepping.proofs.Checked.{count_fits, one_holds}
use Rattle.running.proofs.Stepped.{none_advanced, all_advanced}
use Rattle.running.proofs.advancing.advance.Goals as goal

pub returns-then-not-is_acceptable : goal.returns-then-not-is_acceptable
returns-then-not-is_acceptable c =
    rw c.at-refused.ensures (none_advanced c.args.run c.args.stolen.now (sym c.is_acceptable.ensures ∙ c.if-not-is_acceptable.true))

pub advance_rows-requires : goal.advance_rows-requires
advance_rows-requires c =
    let a = sym c.is_acceptable.ensures ∙ c.if-not-is_acceptable.false in
    record { few = count_fits c.args.run a; one = one_holds c.args.run a }

pub returns : goal.returns
returns c =
    rw c.advance_rows.ensures (all_advanced c.args.run c.args.stolen.now (sym c.is_acceptable.ensures ∙ c.if-not-is_acceptable.false))
