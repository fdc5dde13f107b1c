-- A mailbox at one moment, and what each step makes of it.
use Rattle.std.specs.Prelude.{◌≡◌, ℕ, zero, suc, ◌+◌, ◌^◌, ◌<◌, ◌==◌, Bool, true, false, leb, List, [], ◌∷◌, ◌++◌, slice_set}
use Rattle.rs_mailcore.specs.declared.thread.Phase.{Phase}
use Rattle.rs_mailcore.specs.declared.thread.Phase.TheVariants.{Calm, Notifying, Holding, Releasing}
use Rattle.rs_mailcore.specs.declared.letter.Place.{Place}
use Rattle.rs_mailcore.specs.declared.letter.Place.TheVariants.{Home, With, Given}
use Rattle.rs_mailcore.specs.declared.letter.Letter.{Letter}
use Rattle.rs_mailcore.specs.declared.thread.Thread.{Thread}
use Rattle.rs_mailcore.specs.declared.step.Step.{Step}
use Rattle.rs_mailcore.specs.declared.step.Step.TheVariants.{Announce, Notify, Take, Release, Recheck, Retake, Close, Look, Reschedule, Push, Pop}
use Rattle.rs_mailcore.specs.Words.{stance}

-- the mailbox at one moment: its word, where the machine is, the queue, and the threads that use it
pub record Moment (M : Type 0) : Type 0 where
  pub word : ℕ
  pub announced : ℕ
  pub place : Place
  pub handled : ℕ
  pub queue : List (Letter M)
  pub threads : List Thread

-- the first where the test holds, and else the second
abbrev pub pick : {A : Type 0} → Bool → A → A → A
pick true a b = a
pick false a b = b

-- a machine that is home is given away, and one that is out stays where it is
abbrev pub given_from : Place → Place
given_from Home = Given
given_from (With i) = With i
given_from Given = Given

-- the thread in this stance
abbrev pub restanced : Thread → Phase → ℕ → ℕ → Thread
restanced x phase announced remembered = record x { stance = stance phase announced remembered }

-- one more message of this sender was taken
abbrev pub raise_taken : List Thread → ℕ → List Thread
raise_taken [] s = []
raise_taken (x ∷ xs) zero = record x { taken = x.taken + 1 } ∷ xs
raise_taken (x ∷ xs) (suc s) = x ∷ raise_taken xs s

-- it is calm, and has announced all that it pushed
abbrev pub IsSettled : Thread → Type 0
IsSettled x = (x.stance.phase ≡ Calm) × (x.pushed ≡ x.stance.announced)

module _ {M : Type 0} where
  -- thread i, which is x, goes over to this phase, and the word, the place and the announcements become these
  abbrev pub goes : Moment M → ℕ → Thread → ℕ → Place → ℕ → Phase → ℕ → ℕ → Moment M
  goes m i x word place announced phase own remembered = record m { word = word; announced = announced; place = place; threads = slice_set m.threads i (restanced x phase own remembered) }

  -- thread i hands the machine out of a closed mailbox
  abbrev pub hands_out : Moment M → ℕ → Thread → Moment M
  hands_out m i x = goes m i x m.word Given m.announced Calm x.stance.announced m.handled

  -- thread i lets the machine go: it goes home where the word is Held, and else out of the mailbox
  abbrev pub lets_go : Moment M → ℕ → Thread → ℕ → Phase → Moment M
  lets_go m i x word phase = pick (m.word == 3) (goes m i x word Home m.announced phase x.stance.announced m.handled) (hands_out m i x)

  -- the message at the front is taken, if there is one

  -- the moment after a pop: the front of the queue is handled, if there is one
  abbrev pub popped : Moment M → List (Letter M) → Moment M
  popped m [] = m
  popped m (l ∷ ls) = record m { handled = m.handled + 1; queue = ls; threads = raise_taken m.threads l.sender }

  -- what thread i, which is x, makes of the mailbox by this step
  abbrev pub after : Moment M → ℕ → Thread → Step M → Moment M
  after m i x Announce = goes m i x m.word m.place (m.announced + 1) Notifying (x.stance.announced + 1) x.stance.remembered
  after m i x Notify = goes m i x (pick (m.word == 1) 0 m.word) m.place m.announced Calm x.stance.announced x.stance.remembered
  after m i x Take = pick (m.word == 0) (goes m i x 3 (With i) m.announced Holding x.stance.announced m.handled) m
  after m i x Release = lets_go m i x 1 Releasing
  after m i x Recheck = pick (leb m.announced x.stance.remembered) (goes m i x m.word m.place m.announced Calm x.stance.announced x.stance.remembered) m
  after m i x Retake = pick (m.word == 1) (goes m i x 3 (With i) m.announced Holding x.stance.announced m.handled) (goes m i x m.word m.place m.announced Calm x.stance.announced x.stance.remembered)
  after m i x Close = record m { word = 2; place = given_from m.place }
  after m i x Look = m
  after m i x Reschedule = lets_go m i x 0 Calm
  after m i x (Push message) = record m { queue = m.queue ++ record { sender = i; number = x.pushed + 1; message = message } ∷ []; threads = slice_set m.threads i (record x { pushed = x.pushed + 1 }) }
  after m i x Pop = popped m m.queue

  -- which steps a thread may make
  abbrev pub Enabled : Thread → Step M → Type 0
  Enabled x Announce = (x.stance.phase ≡ Calm) × (x.pushed ≡ x.stance.announced + 1) × (x.stance.announced < 2 ^ 50)
  Enabled x Notify = x.stance.phase ≡ Notifying
  Enabled x Take = IsSettled x
  Enabled x Release = x.stance.phase ≡ Holding
  Enabled x Recheck = x.stance.phase ≡ Releasing
  Enabled x Retake = x.stance.phase ≡ Releasing
  Enabled x Close = IsSettled x
  Enabled x Look = IsSettled x
  Enabled x Reschedule = x.stance.phase ≡ Holding
  Enabled x (Push message) = IsSettled x × (x.pushed < 2 ^ 50)
  Enabled x Pop = x.stance.phase ≡ Holding
