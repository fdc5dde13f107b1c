use Rattle.std.proofs.Common.{◌≡◌, rules}
use Rattle.rs_mailbox.specs.Stations.{view, IsCalm}
use Rattle.rs_mailbox.specs.Mail.{Shuts}
use Rattle.rs_router.specs.Routes.{ShutsOnce}
use Rattle.rs_router.proofs.Places.{changes, one_more, all_changed}
use Rattle.rs_router.proofs.Sends.{shut_once}
use Rattle.rs_router.proofs.router.Router.close_all.Goals as goal

pub loop-address-preserved : goal.loop-address-preserved
loop-address-preserved g c =
    let i = c.loop-address.invariant in
    let e = c.close.ensures in (
      e.desks,
      e.calm i.1,
      one_more (λ s t. ShutsOnce (view s) (view t) × (t.sender ≡ s.sender)) c.loop-address.address c.args.desks.now.stations.items c.loop-address.desks.stations.items c.close.new.desks.stations.items i.2
          (changes (λ s t. IsCalm t × Shuts (view s) c.close.result (view t) × (t.sender ≡ s.sender)) (λ s t. ShutsOnce (view s) (view t) × (t.sender ≡ s.sender)) c.loop-address.address c.loop-address.desks.stations.items c.close.new.desks.stations.items
          (λ s t k. (shut_once (view s) (view t) c.close.result k.1, k.2)) e.station),
    )

pub returns-clause-stations : goal.returns-clause-stations
returns-clause-stations g c =
    let i = c.loop-address.invariant in
    all_changed (λ s t. ShutsOnce (view s) (view t) × (t.sender ≡ s.sender)) c.loop-address.address c.args.desks.now.stations.items c.loop-address.desks.stations.items (search rules) i.2
