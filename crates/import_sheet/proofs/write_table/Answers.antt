-- `import_sheet::write_table` meets its contract: a table that is written to 776 bytes or more is refused by its own checks alone. Assumes nothing.
use Rattle.std.proofs.Common.{rules, arith, sym, ◌∙◌}
use Rattle.import_sheet.proofs.Room.{table_refused}
use Rattle.import_sheet.proofs.write_table.Goals as goal

pub returns-in_err-size : goal.returns-in_err-size
returns-in_err-size g c = rw (table_refused c.args.table _ _ (omega arith) (sym c.write.ensures.told ∙ c.in_err-size.was)) (search rules)
