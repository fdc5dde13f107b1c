use Rattle.std.proofs.Common.{◌≡◌, take}
use Rattle.rs_history.specs.Outcomes.{shown}
use Rattle.rs_history.proofs.writes.kept.Given as goal

abbrev pub invariant-loop-write : goal.invariant-loop-write
invariant-loop-write l = l.items.items ≡ shown l.ranges (take l.write-index l.writes)
