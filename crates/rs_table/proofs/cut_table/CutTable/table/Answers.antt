use Rattle.rs_table.specs.Tellings.{numbers}
use Rattle.rs_table.proofs.cut_table.CutTable.table.Goals as goal

pub returns-clause-table : goal.returns-clause-table
returns-clause-table c = let s = c.args.self.now in c.table_laws.ensures.unique (numbers s.taken.items) s.table s.cut s.tied
