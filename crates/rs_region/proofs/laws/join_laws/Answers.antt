use Rattle.rs_region.proofs.JoinKeys.{join_holds, join_rises}
use Rattle.rs_region.proofs.laws.join_laws.Goals as goal

pub returns-clause-holds : goal.returns-clause-holds
returns-clause-holds c = join_holds

pub returns-clause-rises : goal.returns-clause-rises
returns-clause-rises c = join_rises
