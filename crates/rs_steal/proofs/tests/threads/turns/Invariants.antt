use Rattle.std.proofs.Common.{◌≡◌}
use Rattle.rs_steal.proofs.tests.threads.turns.Given as goal

abbrev pub invariant-turns : goal.invariant-turns
invariant-turns g l = l.scheduler.addresses ≡ l.pass.addresses
