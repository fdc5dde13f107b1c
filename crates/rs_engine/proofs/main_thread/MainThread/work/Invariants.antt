use Rattle.std.proofs.Common.{◌≡◌}
use Rattle.once_cell.specs.Once.{cell_name}
use Rattle.rs_engine.proofs.main_thread.MainThread.work.Given as goal

abbrev pub invariant-loop : goal.invariant-loop
invariant-loop g l = (l.self.plan ≡ l.initial.self.plan) × (l.note.cell ≡ cell_name l.stop)
