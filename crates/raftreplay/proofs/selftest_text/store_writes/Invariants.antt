use Rattle.std.proofs.Common.{◌≡◌, ◌*◌, ◌≤◌, ◌^◌, take, length}
use Rattle.std.specs.Prelude.{sum_by}
use Rattle.raftreplay.proofs.selftest_text.store_writes.Given as goal

abbrev pub invariant-loop-history : goal.invariant-loop-history
invariant-loop-history l = record {
  counted : l.total ≡ sum_by (λ h. length h.items) (take l.history-index l.history-items);
  small : l.total ≤ l.history-index * 2 ^ 64;
}
