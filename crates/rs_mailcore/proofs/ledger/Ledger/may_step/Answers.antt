use Rattle.std.proofs.Common.{ap, length, arith}
use Rattle.rs_mailcore.specs.Keeping.{moment}
use Rattle.rs_mailcore.proofs.Kept.{there, may_not}
use Rattle.rs_mailcore.proofs.ledger.Ledger.may_step.Goals as goal

pub returns-then-thread-as_slice : goal.returns-then-thread-as_slice
returns-then-thread-as_slice g c = may_not (moment c.args.self.now) c.args.thread c.args.step.now (omega (arith, ap length c.as_slice.ensures.value, c.if-thread-as_slice.true))

pub thread_at-requires : goal.thread_at-requires
thread_at-requires g c = there (moment c.args.self.now) c.args.thread (omega (arith, ap length c.as_slice.ensures.value, c.if-thread-as_slice.false))
