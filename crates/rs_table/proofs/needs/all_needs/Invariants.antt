use Rattle.std.proofs.Common.{◌≡◌}
use Rattle.rs_table.specs.Tellings.{needs_below}
use Rattle.rs_table.proofs.needs.all_needs.Given as goal

abbrev pub invariant-loop-a : goal.invariant-loop-a
invariant-loop-a l = l.all.items ≡ needs_below l.plan l.place l.a
