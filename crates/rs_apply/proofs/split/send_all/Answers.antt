use Rattle.std.proofs.Common.{rules, ◌≡◌, ◌∷◌, [], ◌∙◌, ap, sym, subst, ◌++◌}
use Rattle.std.proofs.lemmas.Grind.{common_steps}
use Rattle.std.proofs.lemmas.List.{append_assoc, append-nil, nil_from_length}
use Rattle.std.specs.Vec.Iter.{into_iter_items}
use Rattle.rs_apply.specs.Births.{AddsBirths, AreBorn}
use Rattle.rs_apply.proofs.Sending.{adds_both}
use Rattle.rs_apply.proofs.Splitting.{next_born}
use Rattle.rs_apply.proofs.split.send_all.Goals as goal

pub send-requires : goal.send-requires
send-requires c =
    let next = c.args.next in
    let born = subst (λ l. AreBorn next.plan.now next.address l (into_iter_items c.loop-state.maps)) c.in-Some.ensures.steps.0 c.loop-state.invariant.0 in
    record { born = (next_born next.plan.now next.address c.in-Some.state (into_iter_items c.next.new.self) (into_iter_items c.loop-state.maps) (into_iter_items c.next-in-loop-state.new.self) c.next-in-loop-state.result c.next-in-loop-state.ensures.items (search (rules, common_steps)) born).0 }

pub loop-state-preserved : goal.loop-state-preserved
loop-state-preserved c =
    let next = c.args.next in
    let born = subst (λ l. AreBorn next.plan.now next.address l (into_iter_items c.loop-state.maps)) c.in-Some.ensures.steps.0 c.loop-state.invariant.0 in (
      (next_born next.plan.now next.address c.in-Some.state (into_iter_items c.next.new.self) (into_iter_items c.loop-state.maps) (into_iter_items c.next-in-loop-state.new.self) c.next-in-loop-state.result c.next-in-loop-state.ensures.items (search (rules, common_steps)) born).1,
      adds_both next.plan.now next.address c.loop-state.yielded (c.in-Some.state ∷ []) c.args.applies.now c.loop-state.applies c.send.new.applies c.loop-state.invariant.1 c.in_ok-send.ensures,
      append_assoc c.loop-state.yielded (c.in-Some.state ∷ []) (into_iter_items c.next.new.self) ∙ ap (λ l. c.loop-state.yielded ++ l) (sym c.in-Some.ensures.steps.0) ∙ c.loop-state.invariant.2,
    )

pub returns : goal.returns
returns c =
    let next = c.args.next in
    let over : into_iter_items c.loop-state.state-iterator ≡ [] = nil_from_length (into_iter_items c.loop-state.state-iterator) (search (rules, common_steps)) in
    let all = sym (append-nil c.loop-state.yielded) ∙ ap (λ l. c.loop-state.yielded ++ l) (sym over) ∙ c.loop-state.invariant.2 in
    subst (λ l. AddsBirths next.plan.now next.address l c.args.applies.now c.loop-state.applies) all c.loop-state.invariant.1
