-- Desks lend a station.
use Rattle.std.specs.Prelude.{ℕ}
use Rattle.std.specs.Borrow.{Lends, MutBor, Fml}
use Rattle.std.specs.Vec.{with_item}
use denote.RattleType.{RattleType}
use Rattle.rs_mailcore.specs.declared.named.Named.{Ghosts}
use Rattle.rs_mailcore.specs.declared.named.Fsm as fsm
use Rattle.rs_mailbox.specs.declared.station.Station.{Station}
use Rattle.rs_mailbox.specs.contracts.station.Station as station
use Rattle.rs_router.specs.declared.desks.Desks.{Desks}
use Rattle.rs_router.specs.contracts.desks.Desks as desks

module _ (F M P : RattleType) (d : fsm.Ghosts F.Denot M.Denot P.Denot) (n : Ghosts F.Denot P.Denot) (k : Ghosts M.Denot P.Denot) where
  -- the desks with another station at the place
  abbrev pub with_station : Desks F.Denot M.Denot P.Denot d n k → ℕ → Station F.Denot M.Denot P.Denot d n k → Desks F.Denot M.Denot P.Denot d n k
  with_station s i x = record s { stations = with_item s.stations i x }

  -- the desks lend a station, and have what the borrower left when the borrow ends
  abbrev pub LendsStation : MutBor (Desks F.Denot M.Denot P.Denot d n k) → ℕ → MutBor (Station F.Denot M.Denot P.Denot d n k) → Fml
  LendsStation s i r = Lends (desks.the_row F M P d n k) (station.the_row F M P d n k) s r (with_station s.now i)
