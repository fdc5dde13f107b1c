-- What a poller keeps are facts of one proof at most.
use Rattle.std.specs.Prelude.{◌≡◌, List, slice_index_or}
use Rattle.rs_mailcore.specs.declared.named.Named.{Ghosts}
use Rattle.rs_mailcore.specs.declared.named.Fsm as fsm
use Rattle.rs_mailbox.specs.declared.mailbox.Mailbox.{Mailbox}
use Rattle.rs_mailbox.specs.declared.station.Station.{Station}
use Rattle.rs_mailbox.specs.Stations.{mailbox_name, IsStationOf}
use Rattle.rs_router.specs.Desks.{AllNamed, AreDesksOf, IsStationOf_prop, Paired_prop}

module _ {F M P : Type 0} {k : Ghosts M P} (set : (x y : P) → IsProp (x ≡ y)) where
  pub AllNamed_prop : (name_of : F → P) (name : P) (bs : List (Mailbox F M P k)) → IsProp (AllNamed name_of name bs)
  AllNamed_prop name_of name bs = λ p q i n b l. set (mailbox_name name_of (slice_index_or bs n b)) name (p n b l) (q n b l) i

  module _ {d : fsm.Ghosts F M P} {n : Ghosts F P} where
    pub AreDesksOf_prop : (name_of : F → P) (bs : List (Mailbox F M P k)) (ss : List (Station F M P d n k)) → IsProp (AreDesksOf name_of bs ss)
    AreDesksOf_prop name_of bs ss = Paired_prop (IsStationOf name_of) (λ b s. IsStationOf_prop set name_of b s) bs ss
