use Rattle.std.proofs.Common.{◌≡◌, ◌≤◌, ◌+◌, ◌++◌, ◌∷◌, [], All, length, vec_len, vec_capacity}
use Rattle.rs_mailbox.specs.Stations.{IsNewStation}
use Rattle.rs_router.specs.Desks.{AreNewDesks}
use Rattle.rs_router.proofs.router_opening.deal.Given as goal

abbrev pub invariant-loop-k : goal.invariant-loop-k
invariant-loop-k g l =
    (length l.desks.items + l.k ≡ l.workers) × All (λ x. AreNewDesks g.F.Named.name l.mailboxes.items x.stations.items) l.desks.items
    × (length l.stations.items + l.k ≡ l.workers) × All (IsNewStation g.F.Named.name l.mailbox) l.stations.items
    × (vec_len l.list ≡ l.k) × (length l.list.items ≡ l.k) × (l.workers ≤ vec_capacity l.list)
    × All (λ x. AreNewDesks g.F.Named.name (l.mailboxes.items ++ l.mailbox ∷ []) x.stations.items) l.list.items
