use Rattle.std.proofs.Common.{◌≡◌}
use Rattle.rs_engine.proofs.main_thread.MainThread.take_told.Given as goal

abbrev pub invariant-loop-address : goal.invariant-loop-address
invariant-loop-address l = l.self.plan ≡ l.initial.self.plan

abbrev pub invariant-loop-place : goal.invariant-loop-place
invariant-loop-place l = l.self.plan ≡ l.initial.self.plan
