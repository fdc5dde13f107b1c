-- New desks are the router's, and calm.
use Rattle.std.proofs.Common.{List, ap}
use Rattle.rs_mailcore.specs.declared.named.Named.{Ghosts}
use Rattle.rs_mailcore.specs.declared.named.Fsm as fsm
use Rattle.rs_mailcore.specs.declared.thread.Stance.{Stance}
use Rattle.rs_mailbox.specs.declared.mailbox.Mailbox.{Mailbox}
use Rattle.rs_mailbox.specs.declared.station.Station.{Station}
use Rattle.rs_mailbox.specs.Stations.{IsCalm, IsNewStation}
use Rattle.rs_router.specs.Desks.{AllCalm, AreDesksOf, AreNewDesks}
use Rattle.rs_router.proofs.Places.{passes_on}

module _ {F M P : Type 0} {d : fsm.Ghosts F M P} {n : Ghosts F P} {k : Ghosts M P} (name_of : F → P) where
  pub new_desks : (bs : List (Mailbox F M P k)) (ss : List (Station F M P d n k)) → AreNewDesks name_of bs ss → AreDesksOf name_of bs ss
  new_desks bs ss new = (new.0, λ i b s within. (new.1 i b s within).0)

  pub new_calm : (bs : List (Mailbox F M P k)) (ss : List (Station F M P d n k)) → AreNewDesks name_of bs ss → AllCalm ss
  new_calm bs ss new =
      passes_on (IsNewStation name_of) (λ b. Unit {0}) (λ s. IsCalm s) (λ b s fresh nothing. ap (λ (t : Stance). t.phase) fresh.1) bs ss new (λ i b within. tt)
