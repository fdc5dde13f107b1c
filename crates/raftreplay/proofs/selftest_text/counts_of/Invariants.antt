use Rattle.std.proofs.Common.{◌≡◌, ◌*◌, ◌≤◌, ◌^◌, take, length}
use Rattle.std.specs.Prelude.{sum_by}
use Rattle.raftreplay.specs.Expected.{store_entries, store_writes}
use Rattle.raftreplay.proofs.selftest_text.counts_of.Given as goal

abbrev pub invariant-loop-store : goal.invariant-loop-store
invariant-loop-store l = record {
  regions : l.counts.regions ≡ sum_by (λ s. length s.regions) (take l.store-index l.store-items);
  entries : l.counts.entries ≡ sum_by store_entries (take l.store-index l.store-items);
  writes : l.counts.writes ≡ sum_by store_writes (take l.store-index l.store-items);
  few_regions : l.counts.regions ≤ l.store-index * 2 ^ 127;
  few_entries : l.counts.entries ≤ l.store-index * 2 ^ 127;
  few_writes : l.counts.writes ≤ l.store-index * 2 ^ 127;
}
