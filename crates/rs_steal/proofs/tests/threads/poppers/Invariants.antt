use Rattle.std.proofs.Common.{All}
use Rattle.rs_steal.specs.Opening.{IsNew}
use Rattle.rs_steal.proofs.tests.threads.poppers.Given as goal

abbrev pub invariant-loop-thread : goal.invariant-loop-thread
invariant-loop-thread l = All (IsNew l.scheduler.addresses) l.passes
