use Rattle.std.proofs.Common.{◌∙◌, sym, ap, eq-eqb, ne_eqb}
use Rattle.rs_mailcore.specs.declared.step.Step.TheVariants.{Notify}
use Rattle.rs_mailcore.specs.declared.thread.Phase.TheVariants.{Calm}
use Rattle.rs_mailcore.specs.Moment.{pick, goes}
use Rattle.rs_mailcore.specs.Keeping.{moment}
use Rattle.rs_mailcore.proofs.Kept.{kept}
use Rattle.rs_mailcore.proofs.ledger.Ledger.notify.Goals as goal

pub returns-then-self-eq-IDLE-clause-step : goal.returns-then-self-eq-IDLE-clause-step
returns-then-self-eq-IDLE-clause-step g c = let m = moment c.args.self.now in let x = c.thread_at-was.result in
    kept m (moment c.goes.new.self) c.args.thread Notify c.requires.sound c.requires.enabled x c.thread_at-was.ensures
    (c.goes.ensures ∙ ap (λ b. goes m c.args.thread x (pick b 0 m.word) m.place m.announced Calm x.stance.announced x.stance.remembered) (sym (eq-eqb m.word 1 c.if-self-eq-IDLE.true)))

pub returns-clause-step : goal.returns-clause-step
returns-clause-step g c = let m = moment c.args.self.now in let x = c.thread_at-was.result in
    kept m (moment c.goes-2.new.self) c.args.thread Notify c.requires.sound c.requires.enabled x c.thread_at-was.ensures
    (c.goes-2.ensures ∙ ap (λ b. goes m c.args.thread x (pick b 0 m.word) m.place m.announced Calm x.stance.announced x.stance.remembered) (sym (ne_eqb m.word 1 c.if-self-eq-IDLE.false)))
