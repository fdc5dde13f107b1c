use Rattle.std.proofs.Common.{◌≡◌}
use Rattle.rs_engine.proofs.main_thread.MainThread.tell_each.Given as goal

abbrev pub invariant-loop-address : goal.invariant-loop-address
invariant-loop-address g l = l.self.plan ≡ l.initial.self.plan
