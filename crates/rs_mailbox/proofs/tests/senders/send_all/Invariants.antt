use Rattle.rs_mailbox.specs.Stations.{IsCalm, IsStationOf}
use Rattle.rs_mailbox.proofs.tests.senders.send_all.Given as goal

abbrev pub invariant-messages : goal.invariant-messages
invariant-messages g l = IsStationOf (λ _. 7) l.mailbox l.station × IsCalm l.station
