use Rattle.std.proofs.Common.{rules, ◌≡◌, ◌∙◌}
use Rattle.std.specs.Option.{option_copied}
use Rattle.rs_check.specs.Values.{region_of}
use Rattle.rs_table.specs.Rows.{state_of}
use Rattle.rs_table.specs.Views.{cut_of, input_of, rows_of}
use Rattle.rs_table.proofs.table.StoreTable.state.Goals as goal

pub returns-clause-ended : goal.returns-clause-ended
returns-clause-ended c = λ full on.
    let laws = c.table_laws.ensures in
    let n = cut_of c.args.self.now in
    let there : option_copied c.find.result ≡ state_of (rows_of c.args.self.now) (region_of (input_of c.args.self.now) c.args.a) = search rules in
    there ∙ laws.found n (rows_of c.args.self.now) c.args.a c.table.ensures.table on ∙ laws.full n c.args.a c.table.ensures.cut full on
