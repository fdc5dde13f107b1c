use Rattle.rs_mailbox.specs.Stations.{IsStationOf, IsTurnOf}
use Rattle.rs_mailbox.proofs.tests.senders.serve.Given as goal

abbrev pub invariant-turns : goal.invariant-turns
invariant-turns g l =
    (goal.iterator-turns g).can_next l._round-iterator × (goal.iterator-turns g).is_finite l._round-iterator
    × IsStationOf (λ _. 7) l.mailbox l.station × IsTurnOf (λ _. 7) l.mailbox l.station l.turn
