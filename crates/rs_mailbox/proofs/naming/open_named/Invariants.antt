use Rattle.std.proofs.Common.{◌≡◌, ◌+◌, ◌≤◌, All, length, vec_len, vec_capacity}
use Rattle.rs_mailbox.specs.Passes.{IsReader, IsSender}
use Rattle.rs_mailbox.proofs.naming.open_named.Given as goal

abbrev pub invariant-loop-k : goal.invariant-loop-k
invariant-loop-k g l = IsReader l.queue (g.F.Named.name l.machine) l.reader × (vec_len l.list ≡ l.k) × (length l.list.items ≡ l.k) × (l.senders ≤ vec_capacity l.list) × All (IsSender l.queue (g.F.Named.name l.machine)) l.list.items × (l.reader.me.view.client.made ≡ l.k + 1)
