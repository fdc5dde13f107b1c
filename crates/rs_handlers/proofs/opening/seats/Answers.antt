use Rattle.std.proofs.Common.{◌≡◌, [], ◌∷◌, ◌++◌, All, length, length-append, sym, subst, ap, arith, rules}
use Rattle.std.proofs.lemmas.List.Elements.{All-push}
use Rattle.rs_router.specs.Desks.{AreDesksOf, AllCalm}
use Rattle.rs_router.specs.Passes.{IsNewPass}
use Rattle.rs_router.proofs.Fronts.{front, last}
use Rattle.rs_handlers.proofs.opening.seats.Goals as goal

pub loop-place-init : goal.loop-place-init
loop-place-init g c =
    let desks = sym c.into_vec-desks.ensures in
    let passes = sym c.into_vec-passes.ensures in (
      search rules,
      search rules,
      search rules,
      subst (All (λ d. AreDesksOf g.F.Named.name c.args.router.now.mailboxes.items d.stations.items)) desks c.requires.tied,
      subst (All (λ d. AllCalm d.stations.items)) desks c.requires.calm,
      subst (All (IsNewPass c.args.router.now.scheduler.queue c.args.router.now.scheduler.addresses)) passes c.requires.passes,
      search rules,
    )

pub seat-requires-clause-tied : goal.seat-requires-clause-tied
seat-requires-clause-tied g c κs within =
    last (λ d. AreDesksOf g.F.Named.name c.args.router.now.mailboxes.items d.stations.items) c.loop-place.desks.items c.pop.new.self.items c.unwrap-one.result (search rules) c.loop-place.invariant.3

pub seat-requires-clause-calm : goal.seat-requires-clause-calm
seat-requires-clause-calm g c κs within =
    last (λ d. AllCalm d.stations.items) c.loop-place.desks.items c.pop.new.self.items c.unwrap-one.result (search rules) c.loop-place.invariant.4

pub seat-requires-clause-pass : goal.seat-requires-clause-pass
seat-requires-clause-pass g c κs within =
    last (IsNewPass c.args.router.now.scheduler.queue c.args.router.now.scheduler.addresses) c.loop-place.passes.items c.pop-in-loop-place.new.self.items c.unwrap-pass.result (search rules) c.loop-place.invariant.5

pub loop-place-preserved : goal.loop-place-preserved
loop-place-preserved g c =
    let i = c.loop-place.invariant in
    let p = c.in_ok-push.ensures in
    let desks : c.loop-place.desks.items ≡ c.pop.new.self.items ++ c.unwrap-one.result ∷ [] = search rules in
    let passes : c.loop-place.passes.items ≡ c.pop-in-loop-place.new.self.items ++ c.unwrap-pass.result ∷ [] = search rules in (
      omega (arith, ap length desks, length-append c.pop.new.self.items (c.unwrap-one.result ∷ []), i.0),
      omega (arith, ap length passes, length-append c.pop-in-loop-place.new.self.items (c.unwrap-pass.result ∷ []), i.1),
      omega (arith, i.2, ap length p.items, length-append c.loop-place.seats.items (c.seat.result ∷ [])),
      front (λ d. AreDesksOf g.F.Named.name c.args.router.now.mailboxes.items d.stations.items) c.loop-place.desks.items c.pop.new.self.items c.unwrap-one.result desks i.3,
      front (λ d. AllCalm d.stations.items) c.loop-place.desks.items c.pop.new.self.items c.unwrap-one.result desks i.4,
      front (IsNewPass c.args.router.now.scheduler.queue c.args.router.now.scheduler.addresses) c.loop-place.passes.items c.pop-in-loop-place.new.self.items c.unwrap-pass.result passes i.5,
      subst (All (λ seat. seat.plan.now ≡ c.args.plan.now)) (sym p.items) (All-push (λ seat. seat.plan.now ≡ c.args.plan.now) c.loop-place.seats.items c.seat.result i.6 c.seat.ensures),
    )
