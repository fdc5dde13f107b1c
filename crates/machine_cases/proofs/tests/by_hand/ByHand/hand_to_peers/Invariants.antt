use Rattle.std.proofs.Common.{◌≡◌, All}
use Rattle.std.specs.Vec.Iter.{into_iter_items}
use Rattle.rs_apply.specs.Fitting.{Fits, FitsPeer}
use Rattle.machine_cases.proofs.tests.by_hand.ByHand.hand_to_peers.Given as goal

abbrev pub invariant-loop-address : goal.invariant-loop-address
invariant-loop-address l = (l.self.plan ≡ l.initial.self.plan) × (l.self.plan.now ≡ l.plan) × Fits l.self.plan.now l.self.out × All (FitsPeer l.plan) (into_iter_items l.address-iterator)
