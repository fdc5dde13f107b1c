use Rattle.std.proofs.Common.{◌≡◌, ◌∙◌, [], rules, refl, sym, subst}
use Rattle.std.proofs.lemmas.Grind.{common_steps}
use Rattle.std.proofs.lemmas.List.{nil_from_length}
use Rattle.std.specs.Vec.Iter.{into_iter_items}
use Rattle.rs_poll.specs.Handing.{all_known, HandsAll}
use Rattle.rs_router.proofs.Prefixes.{starts_then}
use Rattle.rs_handlers.proofs.Handing.{hands_first, hands_none}
use Rattle.rs_handlers.proofs.sending.send_all.Goals as goal

pub loop-address-init : goal.loop-address-init
loop-address-init g c =
    let all : into_iter_items c.into_iter-address-iterator.result ≡ c.into_vec-address-items.result.items = c.into_iter-address-iterator.ensures.into_iter_gives.0 in (
      search rules,
      search rules,
      refl,
      search rules,
      search rules,
      search rules,
      refl,
      (λ after sent. subst (λ messages. HandsAll messages (all_known c.args.desks.now.stations.items) after) (all ∙ c.into_vec-address-items.ensures) sent),
    )

pub loop-address-preserved : goal.loop-address-preserved
loop-address-preserved g c =
    let i = c.loop-address.invariant in
    let s = c.in_ok-send.ensures in (
      s.desks,
      s.calm,
      s.turns ∙ i.2,
      s.pass,
      starts_then (g.S.Scheduler.pushed c.args.pass.now) (g.S.Scheduler.pushed c.loop-address.pass) (g.S.Scheduler.pushed c.send.new.pass) i.4 s.pushed,
      (λ x. s.popped x ∙ i.5 x),
      s.empties ∙ i.6,
      (λ after rest. i.7 after (subst (λ messages. HandsAll messages (all_known c.loop-address.desks.stations.items) after) (sym c.in-Some.ensures.steps.0) (hands_first _ _ _ _ after s.sent rest))),
    )

pub returns-in_err-send-clause-popped : goal.returns-in_err-send-clause-popped
returns-in_err-send-clause-popped g c = λ x. c.in_err-send.ensures.popped x ∙ c.loop-address.invariant.5 x

pub returns-clause-sent : goal.returns-clause-sent
returns-clause-sent g c =
    let left = into_iter_items c.loop-address.address-iterator in
    let over : left ≡ [] = nil_from_length left (search (rules, common_steps)) in
    let stations = all_known c.loop-address.desks.stations.items in
    c.loop-address.invariant.7 stations (subst (λ messages. HandsAll messages stations stations) (sym over) (hands_none stations))
