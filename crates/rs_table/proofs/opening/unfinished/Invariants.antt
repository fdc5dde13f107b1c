use Rattle.std.proofs.Common.{◌≡◌, ◌≤◌}
use Rattle.rs_table.specs.Moves.{nothing_covered}
use Rattle.rs_table.specs.Tellings.{open_below}
use Rattle.rs_table.proofs.opening.unfinished.Given as goal

abbrev pub invariant-loop-a : goal.invariant-loop-a
invariant-loop-a l = (l.number ≡ open_below l.plan l.place nothing_covered l.a) × (l.number ≤ l.a)
