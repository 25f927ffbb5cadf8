-- `running::starting::start_stored` meets its contract. Assumes nothing.
use Rattle.std.proofs.Common.{sym, ap, ◌∙◌, rules}
use Rattle.rules.specs.Answers.{start_outcome}
use Rattle.tables.proofs.Filling.{read_refused}
use Rattle.running.proofs.FromStored.{started}
use Rattle.running.proofs.starting.start_stored.Goals as goal

pub returns-in_err-stored : goal.returns-in_err-stored
returns-in_err-stored c = rw (read_refused c.args.bytes.now _ (sym c.in_err-stored.was ∙ c.read.ensures)) (search rules)

pub returns : goal.returns
returns c =
    c.start.ensures ∙ ap start_outcome (started c.args.bytes.now c.in_ok-stored.stored (sym c.read.ensures ∙ c.in_ok-stored.was) c.args.clock c.first_releases-firsts.result c.first_releases-firsts.ensures)
