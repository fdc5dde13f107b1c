use Rattle.std.proofs.Common.{◌≡◌}
use Rattle.once_cell.specs.Once.{cell_name}
use Rattle.rs_router.specs.Lists.{StartsWith}
use Rattle.rs_poll.proofs.poller.Poller.serve.Given as goal

abbrev pub invariant-loop : goal.invariant-loop
invariant-loop g l =
    (l.note.cell ≡ cell_name l.stop) × (l.self.router.now ≡ l.initial.self.router.now)
    × (l.self.worker.number ≡ l.initial.self.worker.number) × (l.self.worker.batch ≡ l.initial.self.worker.batch)
    × (g.H.Handler.name l.self.worker.handler ≡ g.H.Handler.name l.initial.self.worker.handler)
    × StartsWith (g.S.Scheduler.pushed l.self.worker.pass) (g.S.Scheduler.pushed l.initial.self.worker.pass)
