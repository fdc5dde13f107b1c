use Rattle.std.proofs.Common.{◌≡◌, ◌≤◌, All, length, vec_len, vec_capacity}
use Rattle.rs_router.specs.Desks.{AreNewDesks}
use Rattle.rs_router.proofs.router_opening.empty_desks.Given as goal

abbrev pub invariant-loop-k : goal.invariant-loop-k
invariant-loop-k g l = (vec_len l.list ≡ l.k) × (length l.list.items ≡ l.k) × (l.workers ≤ vec_capacity l.list) × All (λ x. AreNewDesks g.F.Named.name l.mailboxes.items x.stations.items) l.list.items
