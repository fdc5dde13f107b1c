use Rattle.std.proofs.Common.{◌≡◌, ◌*◌, ◌-◌, ◌≤◌, ◌^◌, take}
use Rattle.std.specs.Prelude.{sum_by}
use Rattle.raftreplay.proofs.selftest_text.store_entries.Given as goal

abbrev pub invariant-loop-line : goal.invariant-loop-line
invariant-loop-line l = record {
  counted : l.total ≡ sum_by (λ r. r.applied - 5) (take l.line-index l.line-items);
  small : l.total ≤ l.line-index * 2 ^ 64;
}
