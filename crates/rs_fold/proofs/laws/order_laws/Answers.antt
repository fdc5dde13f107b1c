use Rattle.rs_fold.proofs.OrderLaws.{order_laws}
use Rattle.rs_fold.proofs.laws.order_laws.Goals as goal

pub returns : goal.returns
returns c = order_laws c.args.plan.now c.input.ensures.formed c.input.ensures.lawful
