-- What belongs to a mailbox: its stations, and the turn that one of them has.
use Rattle.std.specs.Prelude.{◌≡◌, ℕ, false, [], length, Some}
use Rattle.crossbeam_queue.specs.SegTies.{IsSegPassOf}
use Rattle.rs_mailcore.specs.declared.named.Named.{Ghosts}
use Rattle.rs_mailcore.specs.declared.named.Fsm as fsm
use Rattle.rs_mailcore.specs.declared.thread.Phase.TheVariants.{Calm}
use Rattle.rs_mailcore.specs.Words.{stance}
use Rattle.rs_mailbox.specs.declared.view.View.{View}
use Rattle.rs_mailbox.specs.declared.trail.Trail.{Trail}
use Rattle.rs_mailbox.specs.declared.contents.ContentsName.{ContentsName}
use Rattle.rs_mailbox.specs.declared.mailbox.Mailbox.{Mailbox}
use Rattle.rs_mailbox.specs.declared.station.Station.{Station}
use Rattle.rs_mailbox.specs.declared.turn.Turn.{Turn}
use Rattle.rs_mailbox.specs.ContentsNames.{contents_name, taken}
use Rattle.rs_mailbox.specs.Steps.{IsSeatOf, IsHeldOf}

module _ {F M P : Type 0} {m : Ghosts M P} where
  -- the name of a mailbox's machine
  abbrev pub mailbox_name : (F → P) → Mailbox F M P m → P
  mailbox_name name_of b = name_of b.handover.table.shared.key.machine

  -- the machine of a turn
  abbrev pub machine_of : Turn F M P m → F
  machine_of t = t.held.stored.value.machine

  -- how many messages the machine of a turn has handled
  abbrev pub handled_of : Turn F M P m → ℕ
  handled_of t = t.held.stored.handled

  -- what the pass that takes the messages knows: all messages that were taken
  abbrev pub reader_of : Turn F M P m → Trail P M
  reader_of t = t.held.stored.value.reader.pass.me.view.client

module _ {F M P : Type 0} {d : fsm.Ghosts F M P} {n : Ghosts F P} {k : Ghosts M P} where
  -- what the station knows: its phase, and all steps that it made
  abbrev pub view : Station F M P d n k → View (ContentsName P M P)
  view s = s.hand.seat.me.0

  -- what its sending pass knows: all messages that it pushed
  abbrev pub trail : Station F M P d n k → Trail P M
  trail s = s.sender.me.view.client

  -- no call of the station is under way
  abbrev pub IsCalm : Station F M P d n k → Type 0
  IsCalm s = (view s).stance.phase ≡ Calm

module _ {F M P : Type 0} {d : fsm.Ghosts F M P} {n : Ghosts F P} {k : Ghosts M P} where
  -- the queue has the mailbox's name, and the station's hand and its pass are of this mailbox
  abbrev pub IsStationOf : (F → P) → Mailbox F M P k → Station F M P d n k → Type 0
  IsStationOf name_of b s = IsSeatOf b.handover.table.shared.table_id (contents_name name_of b.handover.table.shared.key) s.hand.seat × IsSegPassOf b.queue s.sender
      × ((trail s).name ≡ Some (mailbox_name name_of b)) × (b.handover.table.shared.key.reader.pass.me.view.client.name ≡ Some (mailbox_name name_of b))

  -- it is calm, and has made no step and pushed nothing
  abbrev pub IsNewStation : (F → P) → Mailbox F M P k → Station F M P d n k → Type 0
  IsNewStation name_of b s = IsStationOf name_of b s × ((view s).stance ≡ stance Calm 0 0) × ((view s).deeds ≡ []) × ((view s).shut ≡ false) × ((trail s).sent ≡ [])

  -- the station took the turn. The machine has the mailbox's name, and the handled count is the number of messages taken
  abbrev pub IsTurnOf : (F → P) → Mailbox F M P k → Station F M P d n k → Turn F M P k → Type 0
  IsTurnOf name_of b s t = IsHeldOf (contents_name name_of) (λ c. length (taken c)) (contents_name name_of b.handover.table.shared.key) s.hand.seat t.held.stored
