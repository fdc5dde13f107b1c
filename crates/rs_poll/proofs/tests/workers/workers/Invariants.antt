use Rattle.std.proofs.Common.{All}
use Rattle.rs_router.specs.Desks.{AreDesksOf, AllCalm}
use Rattle.rs_router.specs.Passes.{IsNewPass}
use Rattle.rs_poll.proofs.tests.workers.workers.Given as goal

abbrev pub invariant-loop-worker : goal.invariant-loop-worker
invariant-loop-worker l =
    All (λ d. AreDesksOf (λ t. 7) l.router.mailboxes.items d.stations.items) l.desks × All (λ d. AllCalm d.stations.items) l.desks
    × All (IsNewPass l.router.scheduler.queue l.router.scheduler.addresses) l.passes
