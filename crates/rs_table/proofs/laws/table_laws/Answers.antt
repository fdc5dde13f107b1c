use Rattle.rs_table.proofs.CutLaws.{cut_laws}
use Rattle.rs_table.proofs.laws.table_laws.Goals as goal

pub returns : goal.returns
returns c = cut_laws c.args.plan.now c.args.place c.input.ensures.formed c.input.ensures.lawful
