use Rattle.std.proofs.Common.{All, rules, [], subst}
use Rattle.std.specs.Vec.Iter.{into_iter_items}
use Rattle.rs_apply.specs.Fitting.{FitsStore}
use Rattle.rs_apply.proofs.Places.{taken_all}
use Rattle.machine_cases.proofs.tests.by_hand.ByHand.hand_to_control.Goals as goal

pub tell_control-requires-clause-message : goal.tell_control-requires-clause-message
tell_control-requires-clause-message c =
    (taken_all (FitsStore c.args.plan.now) [] (into_iter_items c.next.new.self) _ (subst (All (FitsStore c.args.plan.now)) c.in-Some.ensures.steps.0 c.loop-msg.invariant.3)).0.1

pub loop-msg-preserved : goal.loop-msg-preserved
loop-msg-preserved c = (
  search rules,
  search rules,
  search rules,
  (taken_all (FitsStore c.args.plan.now) [] (into_iter_items c.next.new.self) _ (subst (All (FitsStore c.args.plan.now)) c.in-Some.ensures.steps.0 c.loop-msg.invariant.3)).1,
)
