use Rattle.std.proofs.Common.{rules}
use Rattle.rs_router.specs.Turns.{turn_steps}
use Rattle.rs_poll.proofs.Lifts.{adds_then, turned, left}
use Rattle.rs_poll.proofs.turns.take_turn.Goals as goal

pub returns-in-Turned-clause-popped : goal.returns-in-Turned-clause-popped
returns-in-Turned-clause-popped g c =
    adds_then c.address-address.result c.in-Some.ticket.address (g.S.Scheduler.popped c.args.worker.now.pass) (g.S.Scheduler.popped c.pop.new.pass) (g.S.Scheduler.popped c.visit_at.new.worker.pass) (g.S.Scheduler.popped c.send_out.new.pass) (search rules) (search rules) (search rules) (search rules)

pub returns-in-Gone-clause-popped : goal.returns-in-Gone-clause-popped
returns-in-Gone-clause-popped g c =
    adds_then c.address-address.result c.in-Some.ticket.address (g.S.Scheduler.popped c.args.worker.now.pass) (g.S.Scheduler.popped c.pop.new.pass) (g.S.Scheduler.popped c.visit_at.new.worker.pass) (g.S.Scheduler.popped c.send_out.new.pass) (search rules) (search rules) (search rules) (search rules)

pub returns-in-Turned-clause-steps : goal.returns-in-Turned-clause-steps
returns-in-Turned-clause-steps g c =
    turned c.args.worker.now.batch (g.H.Handler.handles c.args.worker.now.handler) (g.H.Handler.handles c.visit_at.new.worker.handler) (g.H.Handler.handles c.send_out.new.self) c.send_out.ensures.handles (g.H.Handler.asked c.visit_at.new.worker.handler) (g.H.Handler.asked c.send_out.new.self) c.send_out.ensures.asked
    c.address-address.result c.in-Some.ticket.address c.address-address.ensures (g.S.Scheduler.pushed c.args.worker.now.pass) (g.S.Scheduler.pushed c.visit_at.new.worker.pass) (g.S.Scheduler.pushed c.send_out.new.pass)
    (turn_steps c.args.desks.now.stations.items) (turn_steps c.visit_at.new.desks.stations.items) (turn_steps c.send_out.new.desks.stations.items) (search rules) (search rules) (search rules)

pub returns-in-Gone-clause-steps : goal.returns-in-Gone-clause-steps
returns-in-Gone-clause-steps g c =
    left c.args.worker.now.batch (g.H.Handler.handles c.args.worker.now.handler) (g.H.Handler.handles c.visit_at.new.worker.handler) (g.H.Handler.handles c.send_out.new.self) c.send_out.ensures.handles (g.H.Handler.asked c.visit_at.new.worker.handler) (g.H.Handler.asked c.send_out.new.self) c.send_out.ensures.asked
    c.address-address.result c.in-Some.ticket.address c.address-address.ensures (g.S.Scheduler.pushed c.args.worker.now.pass) (g.S.Scheduler.pushed c.visit_at.new.worker.pass) (g.S.Scheduler.pushed c.send_out.new.pass)
    (turn_steps c.args.desks.now.stations.items) (turn_steps c.visit_at.new.desks.stations.items) (turn_steps c.send_out.new.desks.stations.items) (search rules) (search rules)
