-- A ledger as a mailbox at one moment, and what a step has to make of it.
use Rattle.std.specs.Prelude.{◌≡◌, ◌≢◌, ◌+◌, ◌<◌, ◌⊎◌, ℕ, [], length, replicate, slice_set}
use mathlib.Core.Option.{some}
use lib.ListN.{get_elem?}
use Rattle.rs_mailcore.specs.Words.{IsWatching, stance}
use Rattle.rs_mailcore.specs.declared.thread.Phase.TheVariants.{Calm}
use Rattle.rs_mailcore.specs.declared.letter.Place.TheVariants.{Home}
use Rattle.rs_mailcore.specs.declared.step.Step.{Step}
use Rattle.rs_mailcore.specs.declared.step.Step.TheVariants.{Announce, Notify, Take, Release, Recheck, Retake, Close, Look, Reschedule, Push, Pop}
use Rattle.rs_mailcore.specs.declared.thread.Thread.{Thread}
use Rattle.rs_mailcore.specs.Moment.{Moment, Enabled, after}
use Rattle.rs_mailcore.specs.Lawful.{IsLawful, InSenderOrder}
use Rattle.rs_mailcore.specs.declared.ledger.Ledger.{Ledger}

-- a thread that has done nothing yet
abbrev pub newcomer : Thread
newcomer = record { stance = stance Calm 0 0; pushed = 0; taken = 0 }

module _ {M : Type 0} where
  -- what the ledger says of this moment
  abbrev pub moment : Ledger M → Moment M
  moment c = record { word = c.word; announced = c.announced; place = c.place; handled = c.handled; queue = c.queue.items; threads = c.threads.items }

  -- an idle mailbox of this number of threads, with the machine home and nothing done
  abbrev pub opening : ℕ → Moment M
  opening threads = record { word = 1; announced = 0; place = Home; handled = 0; queue = []; threads = replicate threads newcomer }

  -- what holds between any two steps: the lawful core, and each sender's messages in its order
  abbrev pub IsSound : Moment M → Type 0
  IsSound m = IsLawful m × InSenderOrder m

  -- thread i is there, and may make this step
  abbrev pub MayStep : Moment M → ℕ → Step M → Type 0
  MayStep m i s = (x : Thread) × (get_elem? m.threads i ≡ some x) × Enabled x s

  -- thread i made this step: the moment after it is the step function's, it is sound, and Drop has stayed
  abbrev pub Steps : Moment M → ℕ → Step M → Moment M → Type 0
  Steps m i s n = ((x : Thread) × (get_elem? m.threads i ≡ some x) × (n ≡ after m i x s)) × IsSound n × (m.word ≡ 2 → n.word ≡ 2)

  -- the moment with another state of the thread at this place
  abbrev pub with_thread : Moment M → ℕ → Thread → Moment M
  with_thread m i x = record m { threads = slice_set m.threads i x }

  -- the mailbox is closed or has no messages, or the word is Notified or Held, or some thread is about to look, or is
  -- between its push and its announcement
  abbrev pub IsAwake : Moment M → Type 0
  IsAwake m = m.word ≢ 2 → 0 < length m.queue → (m.word ≡ 0) ⊎ ((m.word ≡ 3) ⊎ ((i : ℕ) × (x : Thread) × (get_elem? m.threads i ≡ some x) × (IsWatching x.stance.phase ⊎ (x.pushed ≡ x.stance.announced + 1))))

-- the step is the push of a message
abbrev pub IsPush : {M : Type 0} → Step M → Type 0
IsPush (Push message) = Unit {0}
IsPush Announce = ⊥
IsPush Notify = ⊥
IsPush Take = ⊥
IsPush Release = ⊥
IsPush Recheck = ⊥
IsPush Retake = ⊥
IsPush Close = ⊥
IsPush Look = ⊥
IsPush Reschedule = ⊥
IsPush Pop = ⊥
