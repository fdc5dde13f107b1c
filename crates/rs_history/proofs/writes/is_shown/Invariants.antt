use Rattle.std.proofs.Common.{◌≡◌, drop}
use Rattle.rs_history.specs.Outcomes.{is_shown}
use Rattle.rs_history.proofs.writes.is_shown.Given as goal

abbrev pub invariant-loop-range : goal.invariant-loop-range
invariant-loop-range l = is_shown l.ranges l.key ≡ is_shown (drop l.range-index l.ranges) l.key
