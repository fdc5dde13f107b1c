use Rattle.std.proofs.Common.{◌≡◌, All}
use Rattle.std.specs.Vec.Iter.{into_iter_items}
use Rattle.rs_apply.specs.Fitting.{Fits, FitsStore}
use Rattle.machine_cases.proofs.tests.by_hand.ByHand.hand_to_control.Given as goal

abbrev pub invariant-loop-msg : goal.invariant-loop-msg
invariant-loop-msg l = (l.self.plan ≡ l.initial.self.plan) × (l.self.plan.now ≡ l.plan) × Fits l.self.plan.now l.self.out × All (FitsStore l.plan) (into_iter_items l.msg-iterator)
