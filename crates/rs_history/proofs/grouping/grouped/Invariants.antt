use Rattle.std.proofs.Common.{◌≡◌, ◌++◌, ◌-◌, ◌≤◌, length, drop}
use Rattle.rs_history.specs.Runs.{groups}
use Rattle.rs_history.proofs.grouping.grouped.Given as goal

abbrev pub invariant-loop-at : goal.invariant-loop-at
invariant-loop-at l = record {
  within : l.at ≤ length l.writes;
  made : l.histories ++ groups (drop l.at l.writes) ≡ groups l.writes;
}

abbrev pub decreases-loop-at : goal.decreases-loop-at
decreases-loop-at l = length l.writes - l.at
