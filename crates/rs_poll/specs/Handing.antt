-- Messages that go from a worker's stations to mailboxes.
use Rattle.std.specs.Prelude.{◌≡◌, ◌≢◌, ℕ, ◌^◌, ◌≤◌, ◌⊎◌, List, [], ◌∷◌, map}
use Rattle.rs_mailcore.specs.declared.named.Named.{Ghosts}
use Rattle.rs_mailcore.specs.declared.named.Fsm as fsm
use Rattle.rs_mailbox.specs.InOrder.{sends}
use Rattle.rs_mailbox.specs.Mail.{looked, told}
use Rattle.rs_mailbox.specs.Stations.{trail, view}
use Rattle.rs_mailbox.specs.declared.contents.ContentsName.{ContentsName}
use Rattle.rs_mailbox.specs.declared.station.Station.{Station}
use Rattle.rs_mailbox.specs.declared.trail.Trail.{Trail}
use Rattle.rs_mailbox.specs.declared.view.View.{View}
use Rattle.rs_router.specs.Desks.{ChangesAt}

-- what a station knows: its hand's steps, and what its pass pushed. Of names P and messages M
abbrev pub Known : Type 0 → Type 0 → Type 0
Known P M = View (ContentsName P M P) × Trail P M

module _ {F M P : Type 0} {d : fsm.Ghosts F M P} {n : Ghosts F P} {k : Ghosts M P} where
  -- what a station knows of its mailbox and of its queue
  abbrev pub known : Station F M P d n k → Known P M
  known s = (view s, trail s)

  -- what all stations know, in the order of the addresses
  abbrev pub all_known : List (Station F M P d n k) → List (Known P M)
  all_known ss = map known ss

module _ {P M : Type 0} where
  -- the message was pushed, announced and notified
  abbrev pub IsPushed : M → Known P M → Known P M → Type 0
  IsPushed x p q = (word : ℕ) × (before : ℕ) × (found : ℕ) × (word ≢ 2) × (q.0 ≡ told p.0 word before found) × (q.1 ≡ sends p.1 x)

  -- nothing was pushed: the mailbox was found closed, or the station has announced all that it may
  abbrev pub IsRefused : Known P M → Known P M → Type 0
  IsRefused p q = (word : ℕ) × ((word ≡ 2) ⊎ (2 ^ 50 ≤ p.0.stance.announced)) × (q.0 ≡ looked p.0 word) × (q.1 ≡ p.1)

  -- the message was pushed, or it was refused and nothing is known of it
  abbrev pub Hands : M → Known P M → Known P M → Type 0
  Hands x p q = IsPushed x p q ⊎ IsRefused p q

  -- the messages went out one after another, each by the station at the address beside it, and these stations did nothing else
  unfoldable pub HandsAll : List (ℕ × M) → List (Known P M) → List (Known P M) → Type 0
  HandsAll [] ps qs = qs ≡ ps
  HandsAll (sent ∷ rest) ps qs = (rs : List (Known P M)) × ChangesAt sent.0 (Hands sent.1) ps rs × HandsAll rest rs qs
