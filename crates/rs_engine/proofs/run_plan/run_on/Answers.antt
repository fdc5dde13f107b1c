use Rattle.std.proofs.Common.{◌≡◌, subst}
use Rattle.std.specs.Prelude.{IfOk}
use Rattle.rs_history.specs.Outcomes.{outcome_of}
use Rattle.rs_engine.proofs.run_plan.run_on.Goals as goal

pub returns : goal.returns
returns g c = subst (λ input. IfOk c.start.result (λ outcome. outcome ≡ outcome_of input)) c.in_ok-crew.ensures c.start.ensures
