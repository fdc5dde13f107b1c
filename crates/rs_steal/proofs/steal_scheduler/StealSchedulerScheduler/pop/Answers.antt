use Rattle.std.proofs.Common.{ℕ, ◌<◌, ◌++◌, ◌∷◌, ap, sym, ◌∙◌, subst}
use Rattle.crossbeam_deque.specs.Handles.{worker_view}
use Rattle.rs_router.specs.Lists.{times}
use Rattle.rs_steal.specs.Thieves.{views_of, Stole}
use Rattle.rs_steal.specs.Once.{all_popped}
use Rattle.rs_steal.proofs.OfTickets.{taking_tickets}
use Rattle.rs_steal.proofs.Rounds.{took, stole_first, stole_later, all_empty, both}
use Rattle.rs_steal.proofs.steal_scheduler.StealSchedulerScheduler.pop.Goals as goal

pub pop_as-requires-clause-fifo : goal.pop_as-requires-clause-fifo
pop_as-requires-clause-fifo g c = λ _. taking_tickets _ _

pub returns-in-Some-clause-step : goal.returns-in-Some-clause-step
returns-in-Some-clause-step g c = stole_first _ _ _ _ c.in-Some.ensures.rule

pub returns-in-Some-steal_round-clause-popped : goal.returns-in-Some-steal_round-clause-popped
returns-in-Some-steal_round-clause-popped g c = let p = c.args.pass.now in
    let t = took c.in-Some-steal_round.ticket.address p.addresses (views_of p.thieves.items) (views_of c.steal_round.new.thieves.items) (worker_view p.own).popped c.in-Some-steal_round.ensures.rule p.bounded.1 in (
      subst (λ (n : ℕ). c.in-Some-steal_round.ticket.address < n) (sym c.requires.pass) t.0,
      λ y. ap (λ v. times y (v.popped ++ all_popped (views_of c.steal_round.new.thieves.items))) c.in_default.ensures.rule.0 ∙ t.1 y,
    )

pub returns-in-Some-steal_round-clause-step : goal.returns-in-Some-steal_round-clause-step
returns-in-Some-steal_round-clause-step g c = let p = c.args.pass.now in let vs = views_of p.thieves.items in let ws = views_of c.steal_round.new.thieves.items in let own = c.in_default.ensures.rule in
    subst (λ v. Stole c.in-Some-steal_round.ticket.address (worker_view p.own ∷ vs) (v ∷ ws)) (sym own.0) (stole_later c.in-Some-steal_round.ticket.address (worker_view p.own) vs ws own.1 c.in-Some-steal_round.ensures.rule)

pub returns-clause-step : goal.returns-clause-step
returns-clause-step g c = both _ _ _ _ c.in_default.ensures.rule.0 c.in_default-steal_round.ensures.rule.0

pub returns-in-Some-steal_round-clause-deques : goal.returns-in-Some-steal_round-clause-deques
returns-in-Some-steal_round-clause-deques g c = both _ _ _ _ (ap (λ d. d.0.0) c.pop_as.ensures.same.0.0) c.steal_round.ensures.deques

pub returns-clause-deques : goal.returns-clause-deques
returns-clause-deques g c = both _ _ _ _ (ap (λ d. d.0.0) c.pop_as.ensures.same.0.0) c.steal_round.ensures.deques

pub returns-clause-empty : goal.returns-clause-empty
returns-clause-empty g c = let p = c.args.pass.now in all_empty (worker_view p.own) (views_of p.thieves.items) c.in_default.ensures.rule.1 c.in_default-steal_round.ensures.rule.1
