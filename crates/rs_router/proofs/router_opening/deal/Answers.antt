use Rattle.std.proofs.Common.{◌≡◌, [], ◌∷◌, ◌++◌, All, length, length-append, sym, subst, ap, arith, rules}
use Rattle.std.proofs.lemmas.List.Elements.{All-push}
use Rattle.rs_mailbox.specs.Stations.{IsNewStation}
use Rattle.rs_router.specs.Desks.{AreNewDesks}
use Rattle.rs_router.proofs.Fronts.{front, last}
use Rattle.rs_router.proofs.router_opening.deal.Goals as goal

pub seated-requires-clause-desks : goal.seated-requires-clause-desks
seated-requires-clause-desks g c κs within =
    last (λ x. AreNewDesks g.F.Named.name c.args.mailboxes.now.items x.stations.items) c.loop-k.desks.items c.pop-in-loop-k.new.self.items c.unwrap-one.result (search rules) c.loop-k.invariant.1

pub seated-requires-clause-station : goal.seated-requires-clause-station
seated-requires-clause-station g c κs within =
    last (IsNewStation g.F.Named.name c.args.mailbox.now) c.loop-k.stations.items c.pop.new.self.items c.unwrap-station.result (search rules) c.loop-k.invariant.3

pub loop-k-preserved : goal.loop-k-preserved
loop-k-preserved g c =
    let i = c.loop-k.invariant in
    let p = c.push_reserved.ensures in
    let x = c.in_ok-seated.field-0 in
    let desks : c.loop-k.desks.items ≡ c.pop-in-loop-k.new.self.items ++ c.unwrap-one.result ∷ [] = search rules in
    let stations : c.loop-k.stations.items ≡ c.pop.new.self.items ++ c.unwrap-station.result ∷ [] = search rules in (
      omega (arith, ap length desks, length-append c.pop-in-loop-k.new.self.items (c.unwrap-one.result ∷ []), i.0),
      front (λ x. AreNewDesks g.F.Named.name c.args.mailboxes.now.items x.stations.items) c.loop-k.desks.items c.pop-in-loop-k.new.self.items c.unwrap-one.result desks i.1,
      omega (arith, ap length stations, length-append c.pop.new.self.items (c.unwrap-station.result ∷ []), i.2),
      front (IsNewStation g.F.Named.name c.args.mailbox.now) c.loop-k.stations.items c.pop.new.self.items c.unwrap-station.result stations i.3,
      omega (arith, p.len, i.4),
      omega (arith, i.5, ap length p.items, length-append c.loop-k.list.items (x ∷ [])),
      omega (arith, p.capacity, i.6),
      subst (All (λ x. AreNewDesks g.F.Named.name (c.args.mailboxes.now.items ++ c.args.mailbox.now ∷ []) x.stations.items)) (sym p.items) (All-push (λ x. AreNewDesks g.F.Named.name (c.args.mailboxes.now.items ++ c.args.mailbox.now ∷ []) x.stations.items) c.loop-k.list.items x i.7 c.in_ok-seated.ensures),
    )
