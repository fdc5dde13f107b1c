use Rattle.rs_view.proofs.Taking.{fresh}
use Rattle.rs_view.proofs.opening.empty.Goals as goal

pub returns : goal.returns
returns c = fresh c.in_ok-table.table c.args.plan.now c.args.place c.in_ok-table.ensures.plan c.in_ok-table.ensures.place c.in_ok-table.ensures.none
