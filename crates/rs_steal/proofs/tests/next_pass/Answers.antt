use Rattle.std.proofs.Common.{rules}
use Rattle.rs_router.proofs.Fronts.{front}
use Rattle.rs_steal.specs.Opening.{IsNew}
use Rattle.rs_steal.proofs.tests.next_pass.Goals as goal

pub returns-clause-rest : goal.returns-clause-rest
returns-clause-rest c = front (IsNew c.args.scheduler.now.addresses) c.args.passes.now c.pop.new.self c.in_ok-pass.pass (search rules) c.requires
