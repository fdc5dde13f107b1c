use Rattle.rs_router.proofs.Bounds.{popping, learning}
use Rattle.rs_router.proofs.queue_calls.QueueSchedulerScheduler.pop.Goals as goal

pub pop_as-requires-clause-rule : goal.pop_as-requires-clause-rule
pop_as-requires-clause-rule g c = (popping _ _, learning _ _)
