use Rattle.rs_mailbox.specs.Stations.{view}
use Rattle.rs_router.specs.Desks.{AreDesksOf, AllCalm}
use Rattle.rs_router.specs.Routes.{ShutsOnce}
use Rattle.std.proofs.Common.{◌≡◌}
use Rattle.rs_router.proofs.Places.{SomeChanged}
use Rattle.rs_router.proofs.router.Router.close_all.Given as goal

abbrev pub invariant-loop-address : goal.invariant-loop-address
invariant-loop-address g l =
    AreDesksOf g.F.Named.name l.self.mailboxes.items l.desks.stations.items × AllCalm l.desks.stations.items
    × SomeChanged (λ s t. ShutsOnce (view s) (view t) × (t.sender ≡ s.sender)) l.address l.initial.desks.stations.items l.desks.stations.items
