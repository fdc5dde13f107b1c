use Rattle.std.proofs.Common.{leb}
use Rattle.rs_mailcore.specs.declared.step.Step.TheVariants.{Recheck}
use Rattle.rs_mailcore.specs.declared.thread.Phase.TheVariants.{Calm}
use Rattle.rs_mailcore.specs.Moment.{goes}
use Rattle.rs_mailcore.specs.Keeping.{moment}
use Rattle.rs_mailcore.proofs.Steps.{leb_yes}
use Rattle.rs_mailcore.proofs.Kept.{kept, if_yes}
use Rattle.rs_mailcore.proofs.ledger.Ledger.recheck.Goals as goal

pub returns-then-self-was-clause-step : goal.returns-then-self-was-clause-step
returns-then-self-was-clause-step g c = let m = moment c.args.self.now in let x = c.thread_at-was.result in let n = moment c.goes.new.self in
    kept m n c.args.thread Recheck c.requires.sound c.requires.enabled x c.thread_at-was.ensures
    (if_yes n (goes m c.args.thread x m.word m.place m.announced Calm x.stance.announced x.stance.remembered) m (leb m.announced x.stance.remembered) (leb_yes m.announced x.stance.remembered c.if-self-was.true) c.goes.ensures)
