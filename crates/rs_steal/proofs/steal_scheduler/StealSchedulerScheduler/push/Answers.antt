use Rattle.std.proofs.Common.{rules}
use Rattle.rs_steal.proofs.OfTickets.{pushing_ticket}
use Rattle.rs_steal.proofs.steal_scheduler.StealSchedulerScheduler.push.Goals as goal

pub push_as-requires-clause-pushes : goal.push_as-requires-clause-pushes
push_as-requires-clause-pushes g c = pushing_ticket _ _ _ (search rules) (search rules)
