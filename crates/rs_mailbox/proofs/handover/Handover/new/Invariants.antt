use Rattle.std.proofs.Common.{◌≡◌, ◌+◌, ◌≤◌, All, length, vec_len, vec_capacity}
use Rattle.rs_mailbox.specs.Making.{IsNewHand}
use Rattle.rs_mailbox.proofs.handover.Handover.new.Given as goal

abbrev pub invariant-loop-k : goal.invariant-loop-k
invariant-loop-k g l = IsNewHand l.handover.table.shared.table_id (g.T.Named.name l.handover.table.shared.key) l.first × (l.first.id ≡ 0) × (l.first.me.0.made ≡ l.k) × (vec_len l.list + 1 ≡ l.k) × (vec_len l.list ≡ length l.list.items) × (l.fn.hands ≤ vec_capacity l.list)
    × All (λ h. IsNewHand l.handover.table.shared.table_id (g.T.Named.name l.handover.table.shared.key) h.seat) l.list.items
