-- What each call of a mailbox leaves in the views of the station's hand and of its sending pass.
use Rattle.std.specs.Prelude.{◌≡◌, ◌≢◌, ℕ, ◌+◌, ◌^◌, ◌<◌, ◌≤◌, ◌⊎◌, Option, MatchOption, Result}
use Rattle.std.specs.declared.result.Result.TheVariants.{Ok, Err}
use Rattle.rs_mailcore.specs.declared.named.Named.{Ghosts}
use Rattle.rs_mailcore.specs.declared.thread.Phase.TheVariants.{Calm, Notifying, Holding, Releasing}
use Rattle.rs_mailcore.specs.Words.{IsResting}
use Rattle.rs_mailbox.specs.declared.view.View.{View}
use Rattle.rs_mailbox.specs.declared.view.Kind.TheVariants.{Announce, Notify, Take, Look, Release, Recheck, Retake, Close, Reschedule}
use Rattle.rs_mailbox.specs.declared.trail.Trail.{Trail}
use Rattle.rs_mailbox.specs.declared.turn.Turn.{Turn}
use Rattle.rs_mailbox.specs.declared.ticket.Ticket.{Ticket}
use Rattle.rs_mailbox.specs.declared.outcomes.Closed as closing
use Rattle.rs_mailbox.specs.declared.outcomes.Closed.TheVariants as gone
use Rattle.rs_mailbox.specs.declared.outcomes.Dropped as handed
use Rattle.rs_mailbox.specs.declared.outcomes.Taken.{Taken}
use Rattle.rs_mailbox.specs.declared.outcomes.Taken.TheVariants.{Machine, Not}
use Rattle.rs_mailbox.specs.declared.outcomes.Released.{Released}
use Rattle.rs_mailbox.specs.declared.outcomes.Released.TheVariants.{Idle, Again, Dropped}
use Rattle.rs_mailbox.specs.declared.outcomes.SendError.{SendError}
use Rattle.rs_mailbox.specs.declared.outcomes.SendError.TheVariants.{Closed, NoMemory, Spent}
use Rattle.rs_mailbox.specs.InOrder.{sends}
use Rattle.rs_mailbox.specs.Steps.{deed, moved, turns}

-- the view after a look that found this word
abbrev pub looked : {N : Type 0} → View N → ℕ → View N
looked v word = turns v Calm v.stance.remembered (deed Look word 0)

-- the view after a look, an announcement and a notification
abbrev pub told : {N : Type 0} → View N → ℕ → ℕ → ℕ → View N
told v word before found = turns (moved (looked v word) Notifying (v.stance.announced + 1) v.stance.remembered (deed Announce before 0)) Calm v.stance.remembered (deed Notify found 0)

-- the view after the machine went home and no more was announced
abbrev pub rested : {N : Type 0} → View N → ℕ → ℕ → View N
rested v handled announced = turns (turns v Releasing handled (deed Release 3 handled)) Calm handled (deed Recheck announced 0)

-- the view after the machine went home and more was announced
abbrev pub rechecked : {N : Type 0} → View N → ℕ → ℕ → View N
rechecked v handled announced = turns (turns v Releasing handled (deed Release 3 handled)) Releasing handled (deed Recheck announced 0)

module _ {N P M : Type 0} where
  -- the refusal of a message, by the views before and after: nothing was pushed, and the look found Drop exactly
  -- where the refusal is Closed
  abbrev pub Refuses : View N → Trail P M → M → SendError M → View N → Trail P M → Type 0
  Refuses v t x (Closed y) w u = (y ≡ x) × (w ≡ looked v 2) × (u ≡ t)
  Refuses v t x (NoMemory y) w u = (y ≡ x) × ((word : ℕ) × (word ≢ 2) × (w ≡ looked v word)) × (u ≡ t)
  Refuses v t x (Spent y) w u = (y ≡ x) × ((word : ℕ) × (word ≢ 2) × (w ≡ looked v word)) × (u ≡ t) × (2 ^ 50 ≤ v.stance.announced)

  -- the message was pushed, announced and notified, and a ticket with the mailbox's address comes exactly where the notification found Idle
  abbrev pub Sends : ℕ → View N → Trail P M → M → Result (Option Ticket) (SendError M) → View N → Trail P M → Type 0
  Sends address v t x (Ok b) w u = (word : ℕ) × (before : ℕ) × (found : ℕ) × (word ≢ 2) × (w ≡ told v word before found) × MatchOption b (found ≢ 1) (λ k. (found ≡ 1) × (k.address ≡ address)) × (u ≡ sends t x)
  Sends address v t x (Err e) w u = Refuses v t x e w u

module _ {F M P : Type 0} {m : Ghosts M P} where
  -- what holds of the turn that was taken, or of the word that was found instead
  abbrev pub MatchTaken : Taken F M P m → (Turn F M P m → Type 0) → (ℕ → Type 0) → Type 0
  MatchTaken (Machine t) Q R = Q t
  MatchTaken (Not word) Q R = R word

  -- the take, by the views before and after: the machine comes exactly where the word found was Notified
  abbrev pub Takes : {N : Type 0} → View N → Taken F M P m → View N → Type 0
  Takes v (Machine t) w = w ≡ turns v Holding t.held.stored.handled (deed Take 0 t.held.stored.handled)
  Takes v (Not word) w = (word ≢ 0) × (w ≡ turns v Calm v.stance.remembered (deed Take word 0))

  -- the release of a machine and its handled count, by the answer and the views before and after
  abbrev pub Gives : {N : Type 0} → View N → ℕ → F → Released F M P m → View N → Type 0
  Gives v h x Idle w = ((announced : ℕ) × (announced ≤ h) × (w ≡ rested v h announced))
      ⊎ ((announced : ℕ) × (found : ℕ) × (h < announced) × (found ≢ 1) × (w ≡ turns (rechecked v h announced) Calm h (deed Retake found 0)))
  Gives v h x (Again t) w = (announced : ℕ) × (h < announced) × (w ≡ turns (rechecked v h announced) Holding t.held.stored.handled (deed Retake 1 t.held.stored.handled))
  Gives v h x (Dropped y) w = (y ≡ x) × (w ≡ turns v Calm h (deed Release 2 h))

  -- what holds of the turn if the machine has to be handled again
  abbrev pub OnAgain : Released F M P m → (Turn F M P m → Type 0) → Type 0
  OnAgain Idle Q = Unit {0}
  OnAgain (Again t) Q = Q t
  OnAgain (Dropped y) Q = Unit {0}

  -- the station is calm, unless it has the machine again
  abbrev pub LeavesCalm : Released F M P m → Type 0 → Type 0
  LeavesCalm Idle Q = Q
  LeavesCalm (Again t) Q = Unit {0}
  LeavesCalm (Dropped y) Q = Q

module _ {N F : Type 0} where
  -- the machine went home, and the ticket has the mailbox's address; or the word found was Drop, and the machine is handed out
  abbrev pub Reschedules : ℕ → View N → ℕ → F → Result Ticket (handed.Dropped F) → View N → Type 0
  Reschedules address v h x (Ok t) w = (t.address ≡ address) × (w ≡ turns v Calm h (deed Reschedule 3 h))
  Reschedules address v h x (Err y) w = (y.machine ≡ x) × (w ≡ turns v Calm h (deed Reschedule 2 h))

  -- the machine comes exactly where the word found was Idle or Notified, Elsewhere where it was Held, and Already where it was Drop
  abbrev pub Shuts : View N → closing.Closed F → View N → Type 0
  Shuts v (gone.Machine x) w = (found : ℕ) × (h : ℕ) × IsResting found × (w ≡ turns v Calm v.stance.remembered (deed Close found h))
  Shuts v gone.Elsewhere w = w ≡ turns v Calm v.stance.remembered (deed Close 3 0)
  Shuts v gone.Already w = w ≡ turns v Calm v.stance.remembered (deed Close 2 0)

module _ {F : Type 0} where
  -- what holds of the machine that a close gives
  abbrev pub OnMachine : closing.Closed F → (F → Type 0) → Type 0
  OnMachine (gone.Machine x) Q = Q x
  OnMachine gone.Elsewhere Q = Unit {0}
  OnMachine gone.Already Q = Unit {0}
