use Rattle.std.proofs.Common.{◌≡◌, ◌+◌}
use Rattle.rs_mailbox.specs.Stations.{handled_of, IsTurnOf}
use Rattle.rs_poll.specs.Counts.{RoseBy}
use Rattle.rs_poll.proofs.handling.work.Given as goal

abbrev pub invariant-loop-done : goal.invariant-loop-done
invariant-loop-done g l =
    (l.station ≡ l.initial.station) × IsTurnOf g.F.Named.name l.mailbox l.station l.turn
    × (handled_of l.turn ≡ handled_of l.initial.turn + l.done) × RoseBy l.done (g.H.Handler.handles l.initial.worker.handler) (g.H.Handler.handles l.worker.handler)
    × (g.H.Handler.name l.worker.handler ≡ g.H.Handler.name l.initial.worker.handler) × (g.H.Handler.count l.worker.handler ≡ g.H.Handler.count l.initial.worker.handler)
    × (g.H.Handler.advances l.worker.handler ≡ g.H.Handler.advances l.initial.worker.handler)
    × (l.worker.pass ≡ l.initial.worker.pass) × (l.worker.number ≡ l.initial.worker.number) × (l.worker.batch ≡ l.initial.worker.batch)
