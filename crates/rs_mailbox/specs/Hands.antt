-- What belongs to a handover: its hands, and the value that one of them holds.
use Rattle.std.specs.Prelude.{ℕ}
use Rattle.rs_mailbox.specs.declared.hand.Hand.{Hand}
use Rattle.rs_mailbox.specs.declared.held.Held.{Held}
use Rattle.rs_mailbox.specs.declared.view.View.{View}
use Rattle.rs_mailbox.specs.declared.handover.Handover.{Handover}
use Rattle.rs_mailbox.specs.Steps.{IsSeatOf, IsHeldOf}
use Rattle.rs_mailbox.specs.Making.{IsNewHand}

module _ {T N : Type 0} where
  -- what the hand knows
  abbrev pub seen : Hand T N → View N
  seen hand = hand.seat.me.0

  -- the name of the machine that the handover is for
  abbrev pub handover_name : (T → N) → Handover T N → N
  handover_name name_of h = name_of h.table.shared.key

  -- the hand has its seat at the handover's table
  abbrev pub IsHandOf : (T → N) → Handover T N → Hand T N → Type 0
  IsHandOf name_of h hand = IsSeatOf h.table.shared.table_id (name_of h.table.shared.key) hand.seat

  -- a calm hand that has made no step
  abbrev pub IsFresh : (T → N) → Handover T N → Hand T N → Type 0
  IsFresh name_of h hand = IsNewHand h.table.shared.table_id (name_of h.table.shared.key) hand.seat

  -- this hand took the value, which has the handover's name, and its count is the handled count
  abbrev pub IsHeldBy : (T → N) → (T → ℕ) → Handover T N → Hand T N → Held T → Type 0
  IsHeldBy name_of count_of h hand held = IsHeldOf name_of count_of (name_of h.table.shared.key) hand.seat held.stored
