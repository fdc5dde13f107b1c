use Rattle.std.proofs.Common.{◌==◌, eq-eqb}
use Rattle.rs_mailcore.specs.declared.step.Step.TheVariants.{Take}
use Rattle.rs_mailcore.specs.declared.letter.Place.TheVariants.{With}
use Rattle.rs_mailcore.specs.declared.thread.Phase.TheVariants.{Holding}
use Rattle.rs_mailcore.specs.Moment.{goes}
use Rattle.rs_mailcore.specs.Keeping.{moment}
use Rattle.rs_mailcore.proofs.Kept.{kept, if_yes}
use Rattle.rs_mailcore.proofs.ledger.Ledger.take.Goals as goal

pub returns-then-self-eq-NOTIFIED-clause-step : goal.returns-then-self-eq-NOTIFIED-clause-step
returns-then-self-eq-NOTIFIED-clause-step g c = let m = moment c.args.self.now in let x = c.thread_at-was.result in let n = moment c.goes.new.self in
    kept m n c.args.thread Take c.requires.sound c.requires.enabled x c.thread_at-was.ensures
    (if_yes n (goes m c.args.thread x 3 (With c.args.thread) m.announced Holding x.stance.announced m.handled) m (m.word == 0) (eq-eqb m.word 0 c.if-self-eq-NOTIFIED.true) c.goes.ensures)
