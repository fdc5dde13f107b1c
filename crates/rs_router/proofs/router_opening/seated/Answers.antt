use Rattle.std.proofs.Common.{◌++◌, ◌∷◌, [], sym, subst}
use Rattle.rs_mailbox.specs.Stations.{IsNewStation}
use Rattle.rs_router.specs.Desks.{AreNewDesks}
use Rattle.rs_router.proofs.Places.{paired_push}
use Rattle.rs_router.proofs.router_opening.seated.Goals as goal

pub returns : goal.returns
returns g c =
    subst (AreNewDesks g.F.Named.name (c.args.mailboxes.now.items ++ c.args.mailbox.now ∷ [])) (sym c.in_ok-push.ensures.items)
    (paired_push (IsNewStation g.F.Named.name) c.args.mailboxes.now.items c.args.desks.stations.items c.args.mailbox.now c.args.station c.requires.desks c.requires.station)
