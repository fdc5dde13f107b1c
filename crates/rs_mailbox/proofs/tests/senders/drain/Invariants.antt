use Rattle.std.proofs.Common.{◌≡◌}
use Rattle.rs_mailbox.specs.Stations.{IsTurnOf}
use Rattle.rs_mailbox.proofs.tests.senders.drain.Given as goal

abbrev pub invariant-messages : goal.invariant-messages
invariant-messages g l =
    (goal.iterator-messages g).can_next l._round-iterator × (goal.iterator-messages g).is_finite l._round-iterator
    × (l.station ≡ l.fn.station) × IsTurnOf (λ _. 7) l.mailbox l.station l.turn
