-- What a release and a close leave in the hand's view.
use Rattle.std.specs.Prelude.{◌≡◌, ◌≢◌, ℕ, ◌<◌, ◌≤◌, ◌⊎◌}
use Rattle.rs_mailcore.specs.declared.thread.Phase.TheVariants.{Calm, Holding, Releasing}
use Rattle.rs_mailbox.specs.declared.view.Kind.TheVariants.{Release, Recheck, Retake, Close}
use Rattle.rs_mailcore.specs.Words.{IsResting}
use Rattle.rs_mailbox.specs.declared.view.View.{View}
use Rattle.rs_mailbox.specs.declared.held.Held.{Held}
use Rattle.rs_mailbox.specs.declared.handover.Back.{Back}
use Rattle.rs_mailbox.specs.declared.handover.Back.TheVariants.{Idle, Again, Dropped}
use Rattle.rs_mailbox.specs.declared.handover.Shut.{Shut}
use Rattle.rs_mailbox.specs.declared.handover.Shut.TheVariants.{Value, Elsewhere, Already}
use Rattle.rs_mailbox.specs.Steps.{deed, turns}

module _ {N T : Type 0} where
  -- the release, by the view before, the handled count that was put home or handed out, the answer and the view after
  abbrev pub Releases : View N → ℕ → Back T → View N → Type 0
  Releases v h Idle w = ((a : ℕ) × (a ≤ h) × (w ≡ turns (turns v Releasing h (deed Release 3 h)) Calm h (deed Recheck a 0)))
      ⊎ ((a : ℕ) × (found : ℕ) × (h < a) × (found ≢ 1) × (w ≡ turns (turns (turns v Releasing h (deed Release 3 h)) Releasing h (deed Recheck a 0)) Calm h (deed Retake found 0)))
  Releases v h (Again x) w = (a : ℕ) × (h < a) × (w ≡ turns (turns (turns v Releasing h (deed Release 3 h)) Releasing h (deed Recheck a 0)) Holding x.stored.handled (deed Retake 1 x.stored.handled))
  Releases v h (Dropped x) w = w ≡ turns v Calm h (deed Release 2 h)

  -- the close takes the machine out, or finds it with a worker or already closed
  abbrev pub Closes : View N → Shut T → View N → Type 0
  Closes v (Value x) w = (found : ℕ) × (h : ℕ) × IsResting found × (w ≡ turns v Calm v.stance.remembered (deed Close found h))
  Closes v Elsewhere w = w ≡ turns v Calm v.stance.remembered (deed Close 3 0)
  Closes v Already w = w ≡ turns v Calm v.stance.remembered (deed Close 2 0)

module _ {T : Type 0} where
  -- what holds of the machine if it has to be handled again
  abbrev pub OnAgain : Back T → (Held T → Type 0) → Type 0
  OnAgain Idle Q = Unit {0}
  OnAgain (Again x) Q = Q x
  OnAgain (Dropped x) Q = Unit {0}

  -- what holds of the machine if its mailbox was closed meanwhile
  abbrev pub OnDropped : Back T → (T → Type 0) → Type 0
  OnDropped Idle Q = Unit {0}
  OnDropped (Again x) Q = Unit {0}
  OnDropped (Dropped x) Q = Q x

  -- what holds of the machine that a close gives
  abbrev pub OnValue : Shut T → (T → Type 0) → Type 0
  OnValue (Value x) Q = Q x
  OnValue Elsewhere Q = Unit {0}
  OnValue Already Q = Unit {0}
