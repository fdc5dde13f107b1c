use Rattle.std.proofs.Common.{◌≤◌, subst}
use Rattle.rs_check.specs.Plans.{own_in}
use Rattle.rs_check.proofs.OwnLogs.{own_few}
use Rattle.rs_check.proofs.plan.Plan.own.Goals as goal

pub returns-clause-few : goal.returns-clause-few
returns-clause-few c = subst (λ o. own_in o ≤ 1048576) c.row.ensures (own_few c.args.self.now c.input.ensures.formed c.args.a)
