use Rattle.rs_check.proofs.StoresFound.{some_store}
use Rattle.rs_check.proofs.plan.Plan.place.Goals as goal

pub returns-in-None-clause-within : goal.returns-in-None-clause-within
returns-in-None-clause-within c = some_store c.args.self.now c.args.a c.requires
