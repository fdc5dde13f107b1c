use Rattle.std.proofs.Common.{◌≡◌, List}
use Rattle.std.specs.Vec.Iter.{into_iter_items}
use Rattle.rs_poll.specs.Handing.{all_known, HandsAll, Known}
use Rattle.rs_router.specs.Desks.{AreDesksOf, AllCalm}
use Rattle.rs_router.specs.Lists.{SameBag, StartsWith}
use Rattle.rs_router.specs.Turns.{turn_steps}
use Rattle.rs_handlers.proofs.sending.send_all.Given as goal

abbrev pub invariant-loop-address : goal.invariant-loop-address
invariant-loop-address g l =
    AreDesksOf g.F.Named.name l.router.mailboxes.items l.desks.stations.items
    × AllCalm l.desks.stations.items
    × (turn_steps l.desks.stations.items ≡ turn_steps l.initial.desks.stations.items)
    × (g.S.Scheduler.id l.router.scheduler ≡ g.S.Scheduler.pass_id l.pass)
    × StartsWith (g.S.Scheduler.pushed l.pass) (g.S.Scheduler.pushed l.initial.pass)
    × SameBag (g.S.Scheduler.popped l.initial.pass) (g.S.Scheduler.popped l.pass)
    × (g.S.Scheduler.empties l.pass ≡ g.S.Scheduler.empties l.initial.pass)
    × ((after : List (Known g.row.F-Name.Denot g.row.F-Message.Denot)) → HandsAll (into_iter_items l.address-iterator) (all_known l.desks.stations.items) after → HandsAll l.fn.messages (all_known l.initial.desks.stations.items) after)
