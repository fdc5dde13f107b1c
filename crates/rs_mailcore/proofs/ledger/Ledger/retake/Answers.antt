use Rattle.std.proofs.Common.{◌==◌, eq-eqb, ne_eqb}
use Rattle.rs_mailcore.specs.declared.step.Step.TheVariants.{Retake}
use Rattle.rs_mailcore.specs.declared.letter.Place.TheVariants.{With}
use Rattle.rs_mailcore.specs.declared.thread.Phase.TheVariants.{Calm, Holding}
use Rattle.rs_mailcore.specs.Moment.{goes}
use Rattle.rs_mailcore.specs.Keeping.{moment}
use Rattle.rs_mailcore.proofs.Kept.{kept, if_yes, if_no}
use Rattle.rs_mailcore.proofs.ledger.Ledger.retake.Goals as goal

pub returns-then-self-eq-IDLE-clause-step : goal.returns-then-self-eq-IDLE-clause-step
returns-then-self-eq-IDLE-clause-step g c = let m = moment c.args.self.now in let x = c.thread_at-was.result in let n = moment c.goes.new.self in
    kept m n c.args.thread Retake c.requires.sound c.requires.enabled x c.thread_at-was.ensures
    (if_yes n (goes m c.args.thread x 3 (With c.args.thread) m.announced Holding x.stance.announced m.handled) (goes m c.args.thread x m.word m.place m.announced Calm x.stance.announced x.stance.remembered) (m.word == 1) (eq-eqb m.word 1 c.if-self-eq-IDLE.true) c.goes.ensures)

pub returns-clause-step : goal.returns-clause-step
returns-clause-step g c = let m = moment c.args.self.now in let x = c.thread_at-was.result in let n = moment c.goes-2.new.self in
    kept m n c.args.thread Retake c.requires.sound c.requires.enabled x c.thread_at-was.ensures
    (if_no n (goes m c.args.thread x 3 (With c.args.thread) m.announced Holding x.stance.announced m.handled) (goes m c.args.thread x m.word m.place m.announced Calm x.stance.announced x.stance.remembered) (m.word == 1) (ne_eqb m.word 1 c.if-self-eq-IDLE.false) c.goes-2.ensures)
