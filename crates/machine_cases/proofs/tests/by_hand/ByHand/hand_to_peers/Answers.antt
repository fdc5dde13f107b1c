use Rattle.std.proofs.Common.{All, rules, [], subst}
use Rattle.std.specs.Vec.Iter.{into_iter_items}
use Rattle.rs_apply.specs.Fitting.{FitsPeer}
use Rattle.rs_apply.proofs.Places.{taken_all}
use Rattle.machine_cases.proofs.tests.by_hand.ByHand.hand_to_peers.Goals as goal

pub tell_peer-requires-clause-message : goal.tell_peer-requires-clause-message
tell_peer-requires-clause-message c =
    (taken_all (FitsPeer c.args.plan.now) [] (into_iter_items c.next.new.self) _ (subst (All (FitsPeer c.args.plan.now)) c.in-Some.ensures.steps.0 c.loop-address.invariant.3)).0.1

pub loop-address-preserved : goal.loop-address-preserved
loop-address-preserved c = (
  search rules,
  search rules,
  search rules,
  (taken_all (FitsPeer c.args.plan.now) [] (into_iter_items c.next.new.self) _ (subst (All (FitsPeer c.args.plan.now)) c.in-Some.ensures.steps.0 c.loop-address.invariant.3)).1,
)
