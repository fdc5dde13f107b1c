use Rattle.std.proofs.Common.{◌≡◌}
use Rattle.rs_apply.specs.Fitting.{Fits}
use Rattle.machine_cases.proofs.tests.by_hand.ByHand.play.Given as goal

abbrev pub invariant-loop-step : goal.invariant-loop-step
invariant-loop-step l = (l.self.plan ≡ l.initial.self.plan) × Fits l.self.plan.now l.self.out
