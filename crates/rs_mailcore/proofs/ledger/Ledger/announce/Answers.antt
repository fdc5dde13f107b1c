use Rattle.std.proofs.Common.{rules}
use Rattle.rs_mailcore.specs.declared.step.Step.TheVariants.{Announce}
use Rattle.rs_mailcore.specs.Keeping.{moment}
use Rattle.rs_mailcore.proofs.Kept.{kept, announced_small}
use Rattle.rs_mailcore.proofs.ledger.Ledger.announce.Goals as goal

pub overflow_add-announced : goal.overflow_add-announced
overflow_add-announced g c = let s = announced_small (moment c.args.self.now) c.requires.sound.0 in search rules

pub returns : goal.returns
returns g c = record { step = kept (moment c.args.self.now) (moment c.goes.new.self) c.args.thread Announce c.requires.sound c.requires.enabled c.thread_at-was.result c.thread_at-was.ensures c.goes.ensures }
