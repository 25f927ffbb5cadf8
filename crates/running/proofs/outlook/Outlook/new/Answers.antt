-- `running::outlook::Outlook::new` meets its contract. Assumes nothing.
use Rattle.std.proofs.Common.{rules}
use Rattle.running.proofs.SlotBySlot.{between_none}
use Rattle.running.proofs.outlook.Outlook.new.Goals as goal

pub returns-clause-kept : goal.returns-clause-kept
returns-clause-kept c =
    between_none c.args.run c.requires.few (search rules) (search rules) c.requires.one _ _ _ c.holder-held.ensures c.is_some.ensures c.unwrap_or.ensures
