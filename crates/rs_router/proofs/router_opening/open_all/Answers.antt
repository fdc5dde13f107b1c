use Rattle.std.proofs.Common.{◌≡◌, ◌++◌, ◌∷◌, [], All, length, length-append, sym, subst, ◌∙◌, arith}
use Rattle.std.proofs.lemmas.List.{map-id}
use Rattle.std.proofs.lemmas.Iterator.Adapters.{YieldsList-from_vec}
use Rattle.std.proofs.lemmas.Iterator.Consumers.{YieldsList-end}
use Rattle.rs_mailbox.specs.Stations.{mailbox_name}
use Rattle.rs_router.specs.Desks.{AreAddressed, AreNewDesks, Paired}
use Rattle.rs_router.proofs.Places.{addressed_push, paired_push}
use Rattle.rs_router.proofs.router_opening.open_all.Goals as goal

pub loop-machine-preserved : goal.loop-machine-preserved
loop-machine-preserved g c =
    let i = c.loop-machine.invariant in
    let boxes = c.loop-machine.mailboxes.items in
    let b = c.in_ok-mailbox.mailbox in
    let m = c.in_ok-mailbox.ensures in
    let grown = c.in_ok-push.ensures.items in
    let size : length boxes ≡ length c.loop-machine.yielded = i.2.0 in (
      omega (arith, i.0, length-append c.loop-machine.yielded (c.in-Some.machine ∷ [])),
      subst AreAddressed (sym grown) (addressed_push (λ x. x.address) boxes b i.1 (m.address ∙ i.0 ∙ sym size)),
      subst (Paired (λ x y. mailbox_name g.F.Named.name y ≡ g.F.Named.name x) (c.loop-machine.yielded ++ c.in-Some.machine ∷ [])) (sym grown)
          (paired_push (λ x y. mailbox_name g.F.Named.name y ≡ g.F.Named.name x) c.loop-machine.yielded boxes c.in-Some.machine b i.2 m.name),
      c.in_ok-desks-2.ensures.count,
      subst (λ l. All (λ x. AreNewDesks g.F.Named.name l x.stations.items) c.in_ok-desks-2.desks.items) (sym grown) c.in_ok-desks-2.ensures.desks,
    )

pub returns-clause-names : goal.returns-clause-names
returns-clause-names g c =
    let seen = YieldsList-end (YieldsList-from_vec c.args.machines (cc) (cc)) c.loop-machine.yielded c.loop-machine.machine-iterator c.loop-machine.yielded_by c.next.result c.next.new.self c.in-None.is c.next.ensures.steps in
    subst (λ l. Paired (λ x b. mailbox_name g.F.Named.name b ≡ g.F.Named.name x) l c.loop-machine.mailboxes.items) (sym (map-id c.loop-machine.yielded) ∙ seen.0) c.loop-machine.invariant.2
