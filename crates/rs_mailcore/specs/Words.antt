-- What the state word says, and which phases a thread may be in.
use Rattle.std.specs.Prelude.{◌≡◌, ℕ, ◌+◌, ◌⊎◌, List, [], ◌∷◌}
use Rattle.rs_mailcore.specs.declared.thread.Phase.{Phase}
use Rattle.rs_mailcore.specs.declared.thread.Phase.TheVariants.{Calm, Notifying, Holding, Releasing}
use Rattle.rs_mailcore.specs.declared.thread.Stance.{Stance}

-- the word of a machine at home that was notified
abbrev pub notified : ℕ
notified = 0

-- the word of a machine at home that wasn't notified
abbrev pub idle : ℕ
idle = 1

-- the word of a mailbox that was closed
abbrev pub dropped : ℕ
dropped = 2

-- the word of a machine that a worker holds
abbrev pub held : ℕ
held = 3

-- the machine is at home
abbrev pub IsResting : ℕ → Type 0
IsResting word = (word ≡ 0) ⊎ (word ≡ 1)

-- the thread holds the machine
abbrev pub IsHolding : Phase → Type 0
IsHolding Holding = Unit {0}
IsHolding Calm = ⊥
IsHolding Notifying = ⊥
IsHolding Releasing = ⊥

-- the thread has released the machine and hasn't rechecked
abbrev pub IsReleasing : Phase → Type 0
IsReleasing Releasing = Unit {0}
IsReleasing Calm = ⊥
IsReleasing Notifying = ⊥
IsReleasing Holding = ⊥

-- it is about to look whether the machine has to run again
abbrev pub IsWatching : Phase → Type 0
IsWatching Notifying = Unit {0}
IsWatching Releasing = Unit {0}
IsWatching Calm = ⊥
IsWatching Holding = ⊥

-- a thread's stance: its phase, what it announced and what it remembers
abbrev pub stance : Phase → ℕ → ℕ → Stance
stance phase announced remembered = record { phase = phase; announced = announced; remembered = remembered }

-- all that the threads have announced
abbrev pub announcements : List Stance → ℕ
announcements [] = 0
announcements (x ∷ xs) = x.announced + announcements xs
