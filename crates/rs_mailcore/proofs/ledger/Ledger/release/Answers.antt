use Rattle.std.proofs.Common.{◌==◌, eq-eqb, ne_eqb}
use Rattle.rs_mailcore.specs.declared.step.Step.TheVariants.{Release}
use Rattle.rs_mailcore.specs.declared.letter.Place.TheVariants.{Home}
use Rattle.rs_mailcore.specs.declared.thread.Phase.TheVariants.{Releasing}
use Rattle.rs_mailcore.specs.Moment.{goes, hands_out}
use Rattle.rs_mailcore.specs.Keeping.{moment}
use Rattle.rs_mailcore.proofs.Kept.{kept, if_yes, if_no}
use Rattle.rs_mailcore.proofs.ledger.Ledger.release.Goals as goal

pub returns-then-self-eq-HELD-clause-step : goal.returns-then-self-eq-HELD-clause-step
returns-then-self-eq-HELD-clause-step g c = let m = moment c.args.self.now in let x = c.thread_at-was.result in let n = moment c.goes.new.self in
    kept m n c.args.thread Release c.requires.sound c.requires.enabled x c.thread_at-was.ensures
    (if_yes n (goes m c.args.thread x 1 Home m.announced Releasing x.stance.announced m.handled) (hands_out m c.args.thread x) (m.word == 3) (eq-eqb m.word 3 c.if-self-eq-HELD.true) c.goes.ensures)

pub returns-clause-step : goal.returns-clause-step
returns-clause-step g c = let m = moment c.args.self.now in let x = c.thread_at-was.result in let n = moment c.hands_out.new.self in
    kept m n c.args.thread Release c.requires.sound c.requires.enabled x c.thread_at-was.ensures
    (if_no n (goes m c.args.thread x 1 Home m.announced Releasing x.stance.announced m.handled) (hands_out m c.args.thread x) (m.word == 3) (ne_eqb m.word 3 c.if-self-eq-HELD.false) c.hands_out.ensures)
