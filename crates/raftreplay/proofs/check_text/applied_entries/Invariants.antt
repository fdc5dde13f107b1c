use Rattle.std.proofs.Common.{◌≡◌, ◌*◌, ◌≤◌, ◌^◌}
use Rattle.raftreplay.specs.Expected.{applied_below}
use Rattle.raftreplay.proofs.check_text.applied_entries.Given as goal

abbrev pub invariant-loop-address : goal.invariant-loop-address
invariant-loop-address l = record {
  counted : l.total ≡ applied_below l.plan l.address;
  small : l.total ≤ l.address * 2 ^ 64;
}
