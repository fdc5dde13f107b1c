use Rattle.std.proofs.Common.{◌<◌, ℕ, refl, sym, subst}
use Rattle.rs_mailbox.specs.Stations.{IsStationOf}
use Rattle.rs_router.proofs.Places.{paired_set}
use Rattle.rs_router.proofs.router.Router.close.Goals as goal

pub returns-clause-desks : goal.returns-clause-desks
returns-clause-desks g c =
    paired_set (IsStationOf g.F.Named.name) c.args.self.now.mailboxes.items c.args.desks.now.stations.items c.args.address c.mailbox-mailbox.result.now c.close.new.station c.requires.desks c.requires.below c.mailbox-mailbox.ensures.mailbox c.close.ensures.station

pub returns-clause-station : goal.returns-clause-station
returns-clause-station g c =
    let within = subst (λ (n : ℕ). c.args.address < n) (sym c.requires.desks.0) c.requires.below in
    let e = c.close.ensures in
    (c.index_mut-station.result.now, c.close.new.station, within, c.index_mut-station.ensures.value, refl, (e.calm, e.step, e.sender))
