-- How the first hand splits off the next one.
use Rattle.std.specs.Prelude.{◌≡◌, ℕ, ◌+◌, false, [], Option}
use Rattle.rs_mailcore.specs.declared.thread.Phase.TheVariants.{Calm}
use Rattle.rs_mailcore.specs.Words.{stance}
use Rattle.atomic_table.specs.Seated.{TableId}
use Rattle.atomic_table.specs.declared.shared.Seat.{Seat}
use Rattle.rs_mailbox.specs.declared.view.View.{View}
use Rattle.rs_mailbox.specs.declared.stored.Stored.{Stored}
use Rattle.rs_mailbox.specs.Steps.{IsSeatOf}

-- the view of a new member, which has taken no step
abbrev pub fresh : {N : Type 0} → N → ℕ → View N
fresh name number = record { name = name; number = number; made = 0; unborn = false; empty = false; shut = false; stance = stance Calm 0 0; deeds = [] }

module _ {N : Type 0} where
  -- the view with one more member made
  abbrev pub with_more : View N → View N
  with_more v = record v { made = v.made + 1 }

  -- the view of the member that was made last
  abbrev pub newest : View N → View N
  newest v = fresh v.name v.made

-- a calm hand that has made no step
abbrev pub IsNewHand : {T N : Type 0} → TableId → N → Seat (Option (Stored T)) (View N) → Type 0
IsNewHand id name s = IsSeatOf id name s × (s.me.1 ≡ []) × (s.me.0.stance ≡ stance Calm 0 0) × (s.me.0.deeds ≡ []) × (s.me.0.shut ≡ false)
