-- What each kind of step tells: of the hand before it, of the number found, and of the hand after it.
use Rattle.std.specs.Prelude.{◌≡◌, ◌≢◌, ℕ, ◌+◌, ◌<◌, ◌≤◌, ◌⊎◌, Bool, true, false, List, [], ◌∷◌, ◌++◌, Option, Some, None}
use Rattle.atomic_table.specs.Table.{Me, rest}
use Rattle.atomic_table.specs.Seated.{TableId}
use Rattle.atomic_table.specs.declared.shared.Seat.{Seat}
use Rattle.rs_mailcore.specs.declared.thread.Phase.{Phase}
use Rattle.rs_mailcore.specs.declared.thread.Phase.TheVariants.{Calm, Notifying, Holding, Releasing}
use Rattle.rs_mailbox.specs.declared.view.Kind.{Kind}
use Rattle.rs_mailbox.specs.declared.view.Kind.TheVariants.{Announce, Notify, Take, Release, Recheck, Retake, Close, Look, Reschedule}
use Rattle.rs_mailbox.specs.declared.view.Deed.{Deed}
use Rattle.rs_mailcore.specs.Words.{IsResting, stance}
use Rattle.rs_mailbox.specs.declared.view.View.{View}
use Rattle.rs_mailbox.specs.declared.stored.Stored.{Stored}

-- a close is remembered
abbrev pub shuts : Kind → Bool → Bool
shuts Close before = true
shuts Announce before = before
shuts Notify before = before
shuts Take before = before
shuts Release before = before
shuts Recheck before = before
shuts Retake before = before
shuts Look before = before
shuts Reschedule before = before

-- one step: its kind, the word it found, and the messages handled by then
abbrev pub deed : Kind → ℕ → ℕ → Deed
deed kind found handled = record { kind = kind; found = found; handled = handled }

-- one more step was made
abbrev pub moved : {N : Type 0} → View N → Phase → ℕ → ℕ → Deed → View N
moved v phase announced remembered d = record v { unborn = false; empty = false; shut = shuts d.kind v.shut; stance = stance phase announced remembered; deeds = v.deeds ++ d ∷ [] }

-- the hand makes a step that leaves its count of announcements
abbrev pub turns : {N : Type 0} → View N → Phase → ℕ → Deed → View N
turns v phase remembered d = moved v phase v.stance.announced remembered d

-- how many messages the stored machine has handled; 0 if there is none
abbrev pub handled_of : {T : Type 0} → Option (Stored T) → ℕ
handled_of None = 0
handled_of (Some x) = x.handled

-- the handled count of the value that the hand brings
abbrev pub brought : {T : Type 0} → List (ℕ × Option (Stored T)) → ℕ
brought [] = 0
brought (c ∷ cs) = handled_of c.1

module _ {T N : Type 0} where
  -- it is a hand of this table and of this name
  abbrev pub IsSeatOf : TableId → N → Seat (Option (Stored T)) (View N) → Type 0
  IsSeatOf id name s = (s.table_id ≡ id) × (s.me.0.name ≡ name) × (s.me.0.unborn ≡ false) × (s.me.0.empty ≡ false)

  -- the hand has taken this value out, and nothing lies in its place. The value has the handover's name, its count is the handled count, and that is not below the one found
  abbrev pub IsHeldOf : (T → N) → (T → ℕ) → N → Seat (Option (Stored T)) (View N) → Stored T → Type 0
  IsHeldOf name_of count_of name s x = (s.me.0.stance.phase ≡ Holding) × (s.me.1 ≡ (0, None) ∷ rest s.me.1) × (s.me.0.stance.remembered ≤ x.handled) × (name_of x.value ≡ name) × (count_of x.value ≡ x.handled)

  -- an announcement: one more message is announced, and nothing is gained or lost
  abbrev pub announced : Me (Option (Stored T)) (View N) → ℕ → Me (Option (Stored T)) (View N) → Type 0
  announced m r n = (n.0 ≡ moved m.0 Notifying (m.0.stance.announced + 1) m.0.stance.remembered (deed Announce r 0)) × (n.1 ≡ m.1)

  -- a notification: the step is noted, and nothing is gained or lost
  abbrev pub notified : Me (Option (Stored T)) (View N) → ℕ → Me (Option (Stored T)) (View N) → Type 0
  notified m r n = (n.0 ≡ turns m.0 Calm m.0.stance.remembered (deed Notify r 0)) × (n.1 ≡ m.1)

  -- a look at the word: the step is noted, and nothing is gained or lost
  abbrev pub looked : Me (Option (Stored T)) (View N) → ℕ → Me (Option (Stored T)) (View N) → Type 0
  looked m r n = (n.0 ≡ turns m.0 Calm m.0.stance.remembered (deed Look r 0)) × (n.1 ≡ m.1)

  -- a recheck: the machine is released again if more was announced than was remembered
  abbrev pub rechecked : Me (Option (Stored T)) (View N) → ℕ → Me (Option (Stored T)) (View N) → Type 0
  rechecked m r n = (r ≤ m.0.stance.remembered → n.0 ≡ turns m.0 Calm m.0.stance.remembered (deed Recheck r 0))
      × (m.0.stance.remembered < r → n.0 ≡ turns m.0 Releasing m.0.stance.remembered (deed Recheck r 0)) × (n.1 ≡ m.1)

  module _ (name_of : T → N) (count_of : T → ℕ) where
    -- the value came out of the slot, and it is the handover's
    abbrev pub Gets : Kind → Me (Option (Stored T)) (View N) → ℕ → Me (Option (Stored T)) (View N) → Type 0
    Gets kind m r n = (x : Stored T) × (n.0 ≡ turns m.0 Holding x.handled (deed kind r x.handled)) × (n.1 ≡ (0, Some x) ∷ m.1) × (name_of x.value ≡ m.0.name) × (count_of x.value ≡ x.handled)

    -- a take: the machine is gained exactly where the word was 0
    abbrev pub taken : Me (Option (Stored T)) (View N) → ℕ → Me (Option (Stored T)) (View N) → Type 0
    taken m r n = (r ≡ 0 → Gets Take m r n) × (r ≢ 0 → (n.0 ≡ turns m.0 Calm m.0.stance.remembered (deed Take r 0)) × (n.1 ≡ m.1)) × (m.0.shut ≡ true → r ≡ 2)

    -- a take after a release: the machine is gained exactly where the word was 1
    abbrev pub retaken : Me (Option (Stored T)) (View N) → ℕ → Me (Option (Stored T)) (View N) → Type 0
    retaken m r n = (r ≡ 1 → Gets Retake m r n) × (r ≢ 1 → (n.0 ≡ turns m.0 Calm m.0.stance.remembered (deed Retake r 0)) × (n.1 ≡ m.1))

    -- a close: the machine is gained unless a worker holds it or it was closed before
    abbrev pub closed : Me (Option (Stored T)) (View N) → ℕ → Me (Option (Stored T)) (View N) → Type 0
    closed m r n = (r ≢ 2 → r ≢ 3 → IsResting r × ((x : Stored T) × (n.0 ≡ turns m.0 Calm m.0.stance.remembered (deed Close r x.handled)) × (n.1 ≡ (0, Some x) ∷ m.1) × (name_of x.value ≡ m.0.name)))
        × ((r ≡ 2) ⊎ (r ≡ 3) → (n.0 ≡ turns m.0 Calm m.0.stance.remembered (deed Close r 0)) × (n.1 ≡ m.1))

  -- the hand brings the value home, or it keeps it where the word is Drop
  abbrev pub GivesBack : Kind → Phase → Me (Option (Stored T)) (View N) → ℕ → Me (Option (Stored T)) (View N) → Type 0
  GivesBack kind phase m r n = (r ≡ 3 → (n.0 ≡ turns m.0 phase (brought m.1) (deed kind r (brought m.1))) × (n.1 ≡ rest m.1))
      × (r ≢ 3 → (r ≡ 2) × (n.0 ≡ turns m.0 Calm (brought m.1) (deed kind r (brought m.1))) × (n.1 ≡ m.1))

  -- a release gives the machine back
  abbrev pub released : Me (Option (Stored T)) (View N) → ℕ → Me (Option (Stored T)) (View N) → Type 0
  released m r n = GivesBack Release Releasing m r n

  -- a rescheduling gives the machine back
  abbrev pub rescheduled : Me (Option (Stored T)) (View N) → ℕ → Me (Option (Stored T)) (View N) → Type 0
  rescheduled m r n = GivesBack Reschedule Calm m r n

  -- the first hand takes the empty slot, and then brings the value home
  abbrev pub emptied : Me (Option (Stored T)) (View N) → ℕ → Me (Option (Stored T)) (View N) → Type 0
  emptied m r n = (n.0 ≡ record m.0 { empty = false }) × (n.1 ≡ (0, None) ∷ m.1)

  -- the maker has put the machine into its cell
  abbrev pub settled : Me (Option (Stored T)) (View N) → ℕ → Me (Option (Stored T)) (View N) → Type 0
  settled m r n = (n.0 ≡ record m.0 { unborn = false; stance = stance Calm 0 0 }) × (n.1 ≡ rest m.1)
