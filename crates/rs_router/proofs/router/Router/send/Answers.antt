use Rattle.std.proofs.Common.{rules}
use Rattle.std.proofs.Common.{◌<◌, ℕ, refl, sym, subst}
use Rattle.rs_mailbox.specs.Stations.{IsStationOf, view, trail}
use Rattle.rs_router.specs.Turns.{turning}
use Rattle.rs_router.proofs.Places.{paired_set, map_set}
use Rattle.rs_router.proofs.Sends.{routed_turns, routed_grows, on_open}
use Rattle.rs_router.proofs.router.Router.send.Goals as goal

pub returns-clause-desks : goal.returns-clause-desks
returns-clause-desks g c =
    paired_set (IsStationOf g.F.Named.name) c.args.self.now.mailboxes.items c.args.desks.now.stations.items c.args.address c.mailbox-mailbox.result.now c.send_at.new.station c.requires.desks c.requires.below c.mailbox-mailbox.ensures.mailbox c.send_at.ensures.station

pub returns-clause-station : goal.returns-clause-station
returns-clause-station g c =
    let within = subst (λ (n : ℕ). c.args.address < n) (sym c.requires.desks.0) c.requires.below in
    (c.index_mut-station.result.now, c.send_at.new.station, within, c.index_mut-station.ensures.value, refl, (c.send_at.ensures.calm, search rules))

pub returns-clause-turns : goal.returns-clause-turns
returns-clause-turns g c =
    let within = subst (λ (n : ℕ). c.args.address < n) (sym c.requires.desks.0) c.requires.below in
    let s = c.index_mut-station.result.now in
    let t = c.send_at.new.station in
    on_open c.send_at.result (map_set (λ q. turning (view q).deeds) c.args.desks.now.stations.items c.args.address s t within c.index_mut-station.ensures.value)
    (routed_turns c.mailbox-mailbox.result.now.address (view s) (view t) (trail s) (trail t) (g.S.Scheduler.pushed c.args.pass.now) (g.S.Scheduler.pushed c.send_at.new.pass) c.args.message c.send_at.result c.send_at.ensures.answer)

pub returns-clause-pushed : goal.returns-clause-pushed
returns-clause-pushed g c =
    let s = c.index_mut-station.result.now in
    let t = c.send_at.new.station in
    routed_grows c.mailbox-mailbox.result.now.address (view s) (view t) (trail s) (trail t) (g.S.Scheduler.pushed c.args.pass.now) (g.S.Scheduler.pushed c.send_at.new.pass) c.args.message c.send_at.result c.send_at.ensures.answer
