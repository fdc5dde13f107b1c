use Rattle.std.proofs.Common.{◌≡◌}
use Rattle.rs_table.specs.Tellings.{prepares_of}
use Rattle.rs_table.proofs.needs.needs_of.Given as goal

abbrev pub invariant-loop-done : goal.invariant-loop-done
invariant-loop-done l = l.prepares ≡ prepares_of l.plan l.a l.done
