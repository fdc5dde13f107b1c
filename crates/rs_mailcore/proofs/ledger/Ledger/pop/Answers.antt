use Rattle.std.proofs.Common.{rules}
use Rattle.rs_mailcore.specs.declared.step.Step.TheVariants.{Pop}
use Rattle.rs_mailcore.specs.Keeping.{moment}
use Rattle.rs_mailcore.proofs.Kept.{kept, handled_small, front_sender, pops}
use Rattle.rs_mailcore.proofs.ledger.Ledger.pop.Goals as goal

pub overflow_add-self : goal.overflow_add-self
overflow_add-self g c = let s = handled_small (moment c.args.self.now) c.requires.sound.0 in search rules

pub thread_at-from-requires : goal.thread_at-from-requires
thread_at-from-requires g c = front_sender (moment c.args.self.now) c.requires.sound.1 c.in_ok-letter.letter c.pop_front.new.self.items c.in_ok-letter.ensures.items

pub returns-clause-step : goal.returns-clause-step
returns-clause-step g c = let e = c.requires.enabled in let m = moment c.args.self.now in
    kept m (moment c.put.new.self) c.args.thread Pop c.requires.sound e e.0 e.1 (pops m (moment c.put.new.self) c.in_ok-letter.letter c.pop_front.new.self.items c.in_ok-letter.ensures.items c.thread_at-from.result c.thread_at-from.ensures c.put.ensures)
