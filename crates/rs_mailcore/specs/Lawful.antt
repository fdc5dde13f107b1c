-- What holds of a mailbox between any two steps.
use Rattle.std.specs.Prelude.{◌≡◌, ℕ, zero, suc, ◌+◌, ◌<◌, ◌≤◌, ◌⊎◌, ◌==◌, All, List, [], ◌∷◌, map, length}
use mathlib.Core.Option as opt
use lib.ListN.{get_elem?}
use Rattle.rs_mailcore.specs.declared.thread.Stance.{Stance}
use Rattle.rs_mailcore.specs.declared.thread.Phase.TheVariants.{Calm}
use Rattle.rs_mailcore.specs.declared.letter.Place.{Place}
use Rattle.rs_mailcore.specs.declared.letter.Place.TheVariants.{Home, With, Given}
use Rattle.rs_mailcore.specs.declared.letter.Letter.{Letter}
use Rattle.rs_mailcore.specs.declared.thread.Thread.{Thread}
use Rattle.rs_mailcore.specs.Words.{IsHolding}
use Rattle.rs_mailcore.specs.Tidy.{IsTidy}
use Rattle.rs_mailcore.specs.Moment.{Moment, pick}

-- the stance of a thread
abbrev pub stance_of : Thread → Stance
stance_of x = x.stance

-- how many messages the machine has handled, if it is at home
abbrev pub home_count : Place → ℕ → opt.Option ℕ
home_count Home n = opt.some n
home_count (With i) n = opt.none
home_count Given n = opt.none

-- how many messages all threads pushed
abbrev pub pushes : List Thread → ℕ
pushes [] = 0
pushes (x ∷ xs) = x.pushed + pushes xs

-- n, n + 1 and so on, k of them
abbrev pub counting : ℕ → ℕ → List ℕ
counting n zero = []
counting n (suc k) = n ∷ counting (n + 1) k

module _ {M : Type 0} where
  pub record IsLawful (m : Moment M) : Type 0 where
    pub tidy : IsTidy m.word m.announced (home_count m.place m.handled) (map stance_of m.threads)
    pub few : length m.threads ≤ 4096
    -- a holding thread has the machine
    pub has : (i : ℕ) (x : Thread) → get_elem? m.threads i ≡ opt.some x → IsHolding x.stance.phase → m.place ≡ With i
    -- a thread has announced all that it pushed, or all but one while it is calm
    pub in_step : (i : ℕ) (x : Thread) → get_elem? m.threads i ≡ opt.some x → (x.pushed ≡ x.stance.announced) ⊎ ((x.pushed ≡ x.stance.announced + 1) × (x.stance.phase ≡ Calm))
    pub found_before : (i : ℕ) (x : Thread) → get_elem? m.threads i ≡ opt.some x → IsHolding x.stance.phase → x.stance.remembered ≤ m.handled
    pub adds_up : m.handled + length m.queue ≡ pushes m.threads

  -- the numbers of this sender's messages in the queue
  abbrev pub numbers : ℕ → List (Letter M) → List ℕ
  numbers s [] = []
  numbers s (l ∷ ls) = pick (l.sender == s) (l.number ∷ numbers s ls) (numbers s ls)

  -- each thread's messages in the queue are those past the ones taken, up to the last pushed, in order
  abbrev pub InSenderOrder : Moment M → Type 0
  InSenderOrder m = ((s : ℕ) (x : Thread) → get_elem? m.threads s ≡ opt.some x → (k : ℕ) × (numbers s m.queue ≡ counting (x.taken + 1) k) × (x.taken + k ≡ x.pushed))
      × All (λ (l : Letter M). l.sender < length m.threads) m.queue
