use Rattle.std.proofs.Common.{◌≡◌, ◌+◌, ◌≤◌, All, length, vec_len, vec_capacity}
use Rattle.rs_mailbox.specs.ContentsNames.{contents_name}
use Rattle.rs_mailbox.specs.Hands.{IsFresh}
use Rattle.rs_mailbox.specs.Passes.{IsSender}
use Rattle.rs_mailbox.specs.Stations.{IsNewStation}
use Rattle.rs_mailbox.proofs.mailbox.Mailbox.new.Given as goal

abbrev pub invariant-loop-k : goal.invariant-loop-k
invariant-loop-k g l = (vec_len l.hands + l.k ≡ l.fn.stations) × (length l.hands.items + l.k ≡ l.fn.stations) × (vec_len l.senders + l.k ≡ l.fn.stations) × (length l.senders.items + l.k ≡ l.fn.stations) × (vec_len l.list ≡ l.k) × (length l.list.items ≡ l.k) × (l.fn.stations ≤ vec_capacity l.list)
    × All (IsFresh (contents_name g.F.Named.name) l.mailbox.handover) l.hands.items
    × All (IsSender l.mailbox.queue (g.F.Named.name l.fn.machine)) l.senders.items
    × All (IsNewStation g.F.Named.name l.mailbox) l.list.items
