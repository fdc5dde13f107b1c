-- The invariant of the state word, the count of announcements, the handled count of the machine at home (none while it is out) and the threads' stances.
use Rattle.std.specs.Prelude.{◌≡◌, ◌≢◌, ℕ, ◌^◌, ◌<◌, ◌≤◌, List}
use mathlib.Core.Option.{Option, some}
use lib.ListN.{get_elem?}
use Rattle.rs_mailcore.specs.declared.thread.Stance.{Stance}
use Rattle.rs_mailcore.specs.Words.{IsResting, IsHolding, IsReleasing, IsWatching, announcements}

-- thread i is the one that holds the machine
abbrev pub Holds : List Stance → ℕ → Type 0
Holds xs i = (x : Stance) × (get_elem? xs i ≡ some x) × IsHolding x.phase

-- the word tells where the machine is, and at most one thread holds it
pub record IsTidy (word announced : ℕ) (home : Option ℕ) (xs : List Stance) : Type 0 where
  pub known : word ≤ 3
  -- the machine is home exactly where the word is Idle or Notified
  pub home_rests : (n : ℕ) → home ≡ some n → IsResting word
  pub rests_home : IsResting word → (n : ℕ) × (home ≡ some n)
  -- while the word is Held one thread holds the machine, while it is at home none does, and never two
  pub held_out : word ≡ 3 → (i : ℕ) × Holds xs i
  pub rests_free : IsResting word → (i : ℕ) → ¬ Holds xs i
  pub alone : (i j : ℕ) → Holds xs i → Holds xs j → i ≡ j
  -- the count of announcements is the sum of the threads' own
  pub counted : announced ≡ announcements xs
  pub bounded : (i : ℕ) (x : Stance) → get_elem? xs i ≡ some x → x.announced ≤ 2 ^ 50
  -- what a releasing thread remembers is not above the handled count of the machine at home, or above the one that the holder found
  pub behind_home : word ≢ 2 → (i : ℕ) (x : Stance) → get_elem? xs i ≡ some x → IsReleasing x.phase → (n : ℕ) → home ≡ some n → x.remembered ≤ n
  pub behind_holder : word ≢ 2 → (i : ℕ) (x : Stance) → get_elem? xs i ≡ some x → IsReleasing x.phase → (j : ℕ) (y : Stance) → get_elem? xs j ≡ some y → IsHolding y.phase → x.remembered ≤ y.remembered
  -- no announcement sleeps: some thread is about to look
  pub watched : word ≡ 1 → (n : ℕ) → home ≡ some n → n < announced → (i : ℕ) × (x : Stance) × (get_elem? xs i ≡ some x) × IsWatching x.phase
