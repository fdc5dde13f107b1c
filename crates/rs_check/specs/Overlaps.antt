-- What it means that boot regions overlap, and which overlap is the first.
use Rattle.std.specs.Prelude.{◌≡◌, ℕ, ◌<◌, ◌≤◌, ◌⊎◌, true, false, List, Option, Some, IfSome}
use Rattle.rs_key.specs.Keys.{is_key}
use Rattle.rs_key.specs.Ranges.{Bounds, holds}
use Rattle.rs_entry.specs.declared.input.Boot.{Boot}
use Rattle.rs_part.specs.Counting.{IsAmong}
use Rattle.rs_part.specs.Ranges.{Apart}
use Rattle.rs_check.specs.Laws.{first_overlap, overlaps, share_a_key}

-- A bound, where it is there, is a key.
abbrev pub IsBound : Option (List ℕ) → Type 0
IsBound bound = IfSome bound (λ k. is_key k ≡ true)

-- The ids of the first pair aren't above those of the second.
abbrev pub IsNotAbove : Boot × Boot → Boot × Boot → Type 0
IsNotAbove p q = (p.0.region < q.0.region) ⊎ ((p.0.region ≡ q.0.region) × (p.1.region ≤ q.1.region))

pub record OverlapLaws : Type 0 where
  -- Ranges that the test finds to share a key have one.
  pub shared : (a b : Bounds) → share_a_key a b ≡ true → (key : List ℕ) × (holds a key ≡ true) × (holds b key ≡ true)
  -- No key lies in two ranges that it doesn't find so.
  pub apart : (a b : Bounds) → IsBound a.start → IsBound b.start → share_a_key a b ≡ false → Apart a b
  -- The pair that is told is one of those that overlap.
  pub told : (boots : List Boot) (pair : Boot × Boot) → first_overlap boots ≡ Some pair → IsAmong pair (overlaps boots)
  -- None of these has lesser ids.
  pub least : (boots : List Boot) (pair other : Boot × Boot) → first_overlap boots ≡ Some pair → IsAmong other (overlaps boots) → IsNotAbove pair other
