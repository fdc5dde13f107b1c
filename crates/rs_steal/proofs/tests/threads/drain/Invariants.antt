use Rattle.std.proofs.Common.{◌≡◌}
use Rattle.rs_steal.proofs.tests.threads.drain.Given as goal

abbrev pub invariant-loop-pop : goal.invariant-loop-pop
invariant-loop-pop g l = l.scheduler.addresses ≡ l.pass.addresses
