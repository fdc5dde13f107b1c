use Rattle.std.proofs.Common.{ap, ◌∙◌, subst, sym, ◌<◌, ℕ}
use Rattle.rs_router.proofs.Bounds.{pushing}
use Rattle.rs_router.proofs.queue_calls.QueueSchedulerScheduler.push.Goals as goal

pub push_as-requires-clause-rule : goal.push_as-requires-clause-rule
push_as-requires-clause-rule g c = λ n. pushing n _ _ _ (subst (λ (m : ℕ). c.args.ticket.address < m) (ap (λ i. i.1) c.requires.pass ∙ sym c.args.pass.now.bounded) c.requires.below)
