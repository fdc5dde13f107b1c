use Rattle.std.proofs.Common.{ap, subst, ◌∙◌}
use Rattle.rs_mailbox.specs.Stations.{handled_of, view}
use Rattle.rs_router.specs.Lists.{SameBag}
use Rattle.rs_poll.proofs.Endings.{gave_up, settled}
use Rattle.rs_poll.proofs.visits.visit.Goals as goal

pub returns-in-Ok-clause-popped : goal.returns-in-Ok-clause-popped
returns-in-Ok-clause-popped g c =
    subst (λ (p : g.row.S-Pass.Denot). SameBag (g.S.Scheduler.popped p) (g.S.Scheduler.popped c.settle.new.pass)) c.work.ensures.pass c.settle.ensures.popped

pub returns-in-Ok-clause-steps : goal.returns-in-Ok-clause-steps
returns-in-Ok-clause-steps g c =
    let w = c.work.ensures in
    settled c.args.worker.now.batch (g.H.Handler.handles c.args.worker.now.handler) (g.H.Handler.handles c.work.new.worker.handler) (g.H.Handler.asked c.work.new.worker.handler) c.args.mailbox.now.address (handled_of c.in-Machine.turn)
    (g.S.Scheduler.pushed c.args.worker.now.pass) (g.S.Scheduler.pushed c.settle.new.pass) (view c.args.station.now).deeds (view c.settle.new.station).deeds
    (handled_of c.work.new.turn) w.handled.1 c.in-Ok.ensures.handles c.in-Ok.more c.in-Ok.ensures.asked (view c.work.new.station).deeds
    (ap (λ s. (view s).deeds) w.station ∙ ap (λ v. v.deeds) c.in-Machine.ensures.step) (g.S.Scheduler.pushed c.work.new.worker.pass) (ap g.S.Scheduler.pushed w.pass) c.settle.result c.settle.ensures.steps

pub returns-in-Err-clause-steps : goal.returns-in-Err-clause-steps
returns-in-Err-clause-steps g c =
    let w = c.work.ensures in
    gave_up c.args.worker.now.batch (handled_of c.in-Machine.turn) (handled_of c.work.new.turn) w.handled.0 w.handled.1
    (view c.args.station.now).deeds (view c.work.new.station).deeds (view c.give_up.new.station).deeds
    (ap (λ s. (view s).deeds) w.station ∙ ap (λ v. v.deeds) c.in-Machine.ensures.step) c.give_up.ensures.steps
