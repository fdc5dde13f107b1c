use Rattle.std.proofs.Common.{◌≡◌}
use Rattle.rs_steal.proofs.tests.threads.fill.Given as goal

abbrev pub invariant-loop-address : goal.invariant-loop-address
invariant-loop-address g l = l.scheduler.addresses ≡ l.pass.addresses
