-- The steps that a worker makes at one mailbox, and what they leave. Of two lists of steps, the second is the first with those made since.
use Rattle.std.specs.Prelude.{◌≡◌, ◌≢◌, ℕ, ◌+◌, ◌<◌, ◌≤◌, ◌⊎◌, List, [], ◌∷◌, ◌++◌}
use Rattle.rs_mailbox.specs.declared.view.Deed.{Deed}
use Rattle.rs_mailbox.specs.declared.view.Kind.TheVariants.{Take, Release, Recheck, Retake, Close, Reschedule}
use Rattle.rs_mailbox.specs.Steps.{deed}
use Rattle.rs_router.specs.Lists.{StartsWith}
use Rattle.rs_poll.specs.Counts.{RoseBy}
use Rattle.rs_poll.specs.declared.given.Given.{Given}
use Rattle.rs_poll.specs.declared.given.Given.TheVariants.{Home, Again, Dropped}
use Rattle.rs_poll.specs.declared.handler.More.{More}
use Rattle.rs_poll.specs.declared.handler.More.TheVariants.{Yes, No}
use Rattle.rs_poll.specs.declared.worked.Visited.{Visited}
use Rattle.rs_poll.specs.declared.worked.Visited.TheVariants as visited

-- the steps with one more
abbrev pub step : List Deed → Deed → List Deed
step deeds d = deeds ++ d ∷ []

-- a take that found Notified, and so got a machine of this handled count
abbrev pub took : List Deed → ℕ → List Deed
took deeds handled = step deeds (deed Take 0 handled)

-- the machine went home, and more was found announced than handled
abbrev pub rechecked : List Deed → ℕ → ℕ → List Deed
rechecked deeds handled announced = step (step deeds (deed Release 3 handled)) (deed Recheck announced 0)

-- the machine asked for no more, and went home for good: no more was announced, or it wasn't idle any more
abbrev pub Rests : More → ℕ → List Deed → List Deed → Type 0
Rests Yes handled xs ys = ⊥
Rests No handled xs ys = ((announced : ℕ) × (announced ≤ handled) × (ys ≡ rechecked xs handled announced))
    ⊎ ((announced : ℕ) × (found : ℕ) × (handled < announced) × (found ≢ 1) × (ys ≡ step (rechecked xs handled announced) (deed Retake found 0)))

-- the machine was rescheduled at once. The word found was Held, 3, or Drop, 2
abbrev pub AtOnce : ℕ → ℕ → List Deed → List Deed → Type 0
AtOnce word handled xs ys = ys ≡ step xs (deed Reschedule word handled)

-- the machine was rescheduled after a release that found more announced and the machine idle
abbrev pub AfterRelease : ℕ → ℕ → List Deed → List Deed → Type 0
AfterRelease word handled xs ys = (announced : ℕ) × (again : ℕ) × (handled < announced) × (ys ≡ step (step (rechecked xs handled announced) (deed Retake 1 again)) (deed Reschedule word again))

-- a machine that asked for more is rescheduled at once, and one that didn't where the release found more
abbrev pub RunsAgain : More → ℕ → ℕ → List Deed → List Deed → Type 0
RunsAgain Yes word handled xs ys = AtOnce word handled xs ys
RunsAgain No word handled xs ys = AfterRelease word handled xs ys

-- the machine was rescheduled, for whichever reason
abbrev pub Reschedules : ℕ → ℕ → List Deed → List Deed → Type 0
Reschedules word handled xs ys = AtOnce word handled xs ys ⊎ AfterRelease word handled xs ys

-- the giving back found Drop
abbrev pub Drops : More → ℕ → List Deed → List Deed → Type 0
Drops Yes handled xs ys = AtOnce 2 handled xs ys
Drops No handled xs ys = (ys ≡ step xs (deed Release 2 handled)) ⊎ AfterRelease 2 handled xs ys

-- what came of a machine that was rescheduled
abbrev pub Comes : ℕ → Given → List Deed → List Deed → Type 0
Comes handled Home xs ys = ⊥
Comes handled (Again ticket) xs ys = ys ≡ step xs (deed Reschedule 3 handled)
Comes handled Dropped xs ys = ys ≡ step xs (deed Reschedule 2 handled)

-- what came of a machine that was given back
abbrev pub GivesBack : More → ℕ → Given → List Deed → List Deed → Type 0
GivesBack more handled Home xs ys = Rests more handled xs ys
GivesBack more handled (Again ticket) xs ys = RunsAgain more 3 handled xs ys
GivesBack more handled Dropped xs ys = Drops more handled xs ys

-- this number of messages was taken, at most `batch`, and the handler counted each. Of its count before and after
abbrev pub Handles : ℕ → ℕ → ℕ → ℕ → Type 0
Handles batch from to messages = (messages ≤ batch) × RoseBy messages from to

-- a machine was taken, P holds of the number of messages that were taken then, and R of the handled count that this made
abbrev pub Takes : (ℕ → Type 0) → (ℕ → List Deed → List Deed → Type 0) → List Deed → List Deed → Type 0
Takes P R xs ys = (before : ℕ) × (messages : ℕ) × P messages × R (before + messages) (took xs before) ys

-- a turn: the machine rests, or it was rescheduled and its ticket was pushed. Of the mailbox's address and the pass's list before and after
abbrev pub Turns : (ℕ → Type 0) → More → ℕ → List ℕ → List ℕ → List Deed → List Deed → Type 0
Turns P more address ps qs xs ys = Takes P (Rests more) xs ys ⊎ (Takes P (RunsAgain more 3) xs ys × StartsWith qs (ps ++ address ∷ []))

-- no machine was there to take and so no message was, or the machine has no home to go back to
abbrev pub Leaves : (ℕ → Type 0) → More → List Deed → List Deed → Type 0
Leaves P more xs ys = ((word : ℕ) × (word ≢ 0) × P 0 × (ys ≡ step xs (deed Take word 0))) ⊎ Takes P (Drops more) xs ys

-- the machine was rescheduled; then the mailbox was closed, and the ticket spent by a take that found Drop
abbrev pub Abandons : ℕ → List Deed → List Deed → Type 0
Abandons handled xs ys = (zs : List Deed) × (found : ℕ) × (at_home : ℕ) × Reschedules 3 handled xs zs × (ys ≡ step (step zs (deed Close found at_home)) (deed Take 2 0))

-- what came of a turn that was given up
abbrev pub Quits : ℕ → List Deed → List Deed → Type 0
Quits handled xs ys = Abandons handled xs ys ⊎ Reschedules 2 handled xs ys

-- memory was refused with a turn in hand, or the ticket was refused
abbrev pub GivesUp : ℕ → List Deed → List Deed → Type 0
GivesUp batch xs ys = Takes (λ messages. messages ≤ batch) Quits xs ys

-- the rest of the turn, once the machine was taken
abbrev pub Settles : More → ℕ → ℕ → Visited → List ℕ → List ℕ → List Deed → List Deed → Type 0
Settles more handled address visited.Turned ps qs xs ys = Rests more handled xs ys ⊎ (RunsAgain more 3 handled xs ys × (qs ≡ ps ++ address ∷ []))
Settles more handled address visited.Gone ps qs xs ys = Drops more handled xs ys

-- what a visit was
abbrev pub Visits : (ℕ → Type 0) → More → ℕ → Visited → List ℕ → List ℕ → List Deed → List Deed → Type 0
Visits P more address visited.Turned ps qs xs ys = Turns P more address ps qs xs ys
Visits P more address visited.Gone ps qs xs ys = Leaves P more xs ys
