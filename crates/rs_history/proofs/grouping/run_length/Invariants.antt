use Rattle.std.proofs.Common.{◌≤◌, length}
use Rattle.rs_history.proofs.RunLaws.{Leads}
use Rattle.rs_history.proofs.grouping.run_length.Given as goal

abbrev pub invariant-loop-place : goal.invariant-loop-place
invariant-loop-place l = record {
  within : l.place ≤ length l.writes;
  so_far : Leads l.first.key l.writes l.place;
}
