use Rattle.std.proofs.Common.{◌<◌, ℕ, length, sym, subst, rules}
use Rattle.rs_mailbox.specs.Stations.{IsStationOf, view}
use Rattle.rs_router.proofs.Places.{paired_set}
use Rattle.rs_poll.specs.Visits.{Handles}
use Rattle.rs_poll.proofs.Lifts.{visited_at}
use Rattle.rs_poll.proofs.turns.visit_at.Goals as goal

pub returns-clause-desks : goal.returns-clause-desks
returns-clause-desks g c =
    let within : c.address-address.result < length c.args.router.now.mailboxes.items = search rules in
    paired_set (IsStationOf g.F.Named.name) c.args.router.now.mailboxes.items c.args.desks.now.stations.items c.address-address.result c.mailbox-mailbox.result.now c.visit.new.station c.requires.desks within c.mailbox-mailbox.ensures.mailbox c.visit.ensures.station

pub returns-clause-steps : goal.returns-clause-steps
returns-clause-steps g c =
    let below : c.address-address.result < length c.args.router.now.mailboxes.items = search rules in
    let within = subst (λ (n : ℕ). c.address-address.result < n) (sym c.requires.desks.0) below in
    visited_at (λ s. (view s).deeds) c.args.worker.now.batch (Handles c.args.worker.now.batch (g.H.Handler.handles c.args.worker.now.handler) (g.H.Handler.handles c.visit.new.worker.handler)) (g.H.Handler.asked c.visit.new.worker.handler) (g.S.Scheduler.pushed c.args.worker.now.pass) (g.S.Scheduler.pushed c.visit.new.worker.pass) c.args.desks.now.stations.items c.address-address.result c.index_mut-station.result.now c.visit.new.station within c.index_mut-station.ensures.value
    c.mailbox-mailbox.result.now.address c.args.ticket.address c.mailbox-mailbox.ensures.address c.address-address.ensures c.visit.result c.visit.ensures.steps
