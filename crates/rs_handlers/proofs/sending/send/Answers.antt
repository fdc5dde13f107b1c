use Rattle.std.proofs.lemmas.Result.{on_ok_weaker}
use Rattle.rs_mailbox.specs.Stations.{trail, view}
use Rattle.rs_handlers.proofs.Handing.{hands_by, known_changes, routes_open}
use Rattle.rs_handlers.proofs.sending.send.Goals as goal

pub returns-clause-sent : goal.returns-clause-sent
returns-clause-sent g c =
    let pushed = g.S.Scheduler.pushed in
    on_ok_weaker c.unless_no_memory.result
    (λ memory. known_changes c.args.address _ _ (λ s t r. hands_by c.args.address (view s) (trail s) (pushed c.args.pass.now) c.args.message c.send.result (view t) (trail t) (pushed c.send.new.pass) memory r.1) _ _ c.send.ensures.station)
    c.unless_no_memory.ensures.ok

pub returns-clause-turns : goal.returns-clause-turns
returns-clause-turns g c =
    on_ok_weaker c.unless_no_memory.result (λ memory. routes_open c.send.result _ memory c.send.ensures.turns) c.unless_no_memory.ensures.ok
