use Rattle.std.proofs.Common.{refl, ◌≡◌, ◌≤◌, ◌⊎◌, ◌+◌, ◌∙◌, ap, subst}
use Rattle.std.specs.Option.{IsSome}
use Rattle.std.specs.Prelude.{min}
use Rattle.rs_apply.specs.Machines.{last_named}
use Rattle.rs_apply.specs.Merges.{waits_at}
use Rattle.rs_apply.proofs.Coming.{comes, if_ok_all, moved_cause, moved_sent}
use Rattle.rs_apply.proofs.advance.advance.Goals as goal

pub returns-clause-comes : goal.returns-clause-comes
returns-clause-comes c =
    let region = c.args.region in
    let now = c.in_ok-region.region in
    let e = c.in_ok-region.ensures in
    let held = c.run.new.closed.items in
    let last : c.min-last.result ≡ last_named region.plan.now region.address c.args.named = c.min-last.ensures ∙ ap (min c.args.named) c.stop.ensures in
    let upto = subst (λ z. (now.index ≡ region.index) ⊎ (now.index ≤ z)) last e.last in
    let stops = subst (λ z. (now.index ≡ region.index + c.args.budget) ⊎ ((z ≤ now.index) ⊎ IsSome (waits_at region.plan.now region.address held now.index))) last e.stops in
    if_ok_all c.conclude.result _ _ _ _ c.conclude.ensures.cause c.conclude.ensures.life c.conclude.ensures.sent (λ r cause life sent.
    comes region.plan region.address c.args.named c.args.caught c.args.budget region.index now.index c.args.closed.now.items held c.args.asked.now c.conclude.new.asked c.args.out.now c.run.new.out
    (record { peers = c.tell_applied.new.peers; applies = c.run.new.out.applies; stores = c.run.new.out.stores }) c.conclude.new.out r.1 r.0
    e.within.0 e.within.1 upto stops e.ran c.in_ok-tell_applied.ensures refl refl
    (moved_cause now.plan region.plan now.address region.address c.min-last.result (last_named region.plan.now region.address c.args.named) c.args.caught c.deref.result.now held now.index r.1 e.plan e.address last c.deref.ensures.value cause)
    life
    (moved_sent now.plan region.plan now.address region.address r.1 c.args.asked.now c.conclude.new.asked (record { peers = c.tell_applied.new.peers; applies = c.run.new.out.applies; stores = c.run.new.out.stores }) c.conclude.new.out e.plan e.address sent))
