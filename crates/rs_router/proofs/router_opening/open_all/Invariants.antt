use Rattle.std.proofs.Common.{◌≡◌, All, length}
use Rattle.rs_mailbox.specs.Stations.{mailbox_name}
use Rattle.rs_router.specs.Desks.{AreAddressed, AreNewDesks, Paired}
use Rattle.rs_router.proofs.router_opening.open_all.Given as goal

abbrev pub invariant-loop-machine : goal.invariant-loop-machine
invariant-loop-machine g l =
    (l.address ≡ length l.yielded) × AreAddressed l.mailboxes.items
    × Paired (λ x b. mailbox_name g.F.Named.name b ≡ g.F.Named.name x) l.yielded l.mailboxes.items
    × (length l.desks.items ≡ l.workers) × All (λ x. AreNewDesks g.F.Named.name l.mailboxes.items x.stations.items) l.desks.items
