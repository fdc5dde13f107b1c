use Rattle.rs_mailbox.specs.Stations.{IsCalm, IsStationOf}
use Rattle.rs_mailbox.proofs.tests.senders.take_all.Given as goal

abbrev pub invariant-tickets : goal.invariant-tickets
invariant-tickets g l =
    (goal.iterator-tickets g).can_next l._round-iterator × (goal.iterator-tickets g).is_finite l._round-iterator
    × IsStationOf (λ _. 7) l.mailbox l.station × IsCalm l.station
