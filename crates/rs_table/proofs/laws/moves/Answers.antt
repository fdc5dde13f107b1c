use Rattle.rs_table.proofs.PlanMoves.{plan_moves}
use Rattle.rs_table.proofs.laws.moves.Goals as goal

pub returns : goal.returns
returns c = plan_moves c.args.plan.now c.args.place c.input.ensures.formed c.input.ensures.lawful
