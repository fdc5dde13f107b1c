-- One entry more of a region.
use Rattle.std.specs.Prelude.{◌≡◌, ℕ, zero, suc, ◌+◌, ◌<◌, ◌≤◌, List, [], ◌++◌, Some}
use Rattle.rs_entry.specs.declared.entry.Entry.{Entry}
use Rattle.rs_entry.specs.declared.input.Input.{Input}
use Rattle.rs_entry.specs.declared.outcome.Reply.{Reply}
use Rattle.rs_region.specs.declared.state.RegionState.{RegionState}
use Rattle.rs_msg.specs.Maps.{Writes}
use Rattle.rs_check.specs.Plans.{stop_of}
use Rattle.rs_check.specs.Values.{count_of, part_at, entry_at, reply_by}
use Rattle.rs_msg.specs.Held.{IsHeld}

-- the address has this entry to apply after the index
pub record HasNext (input : Input) (a i : ℕ) (e : Entry) : Type 0 where
  pub below : a < count_of input
  pub since : 5 ≤ i
  pub within : i < stop_of input a
  pub entry : entry_at input a (i + 1) ≡ Some e

-- the state and the map after the entry that follows the index, and what it is answered
abbrev pub IsNext : Input → ℕ → ℕ → RegionState → Writes → List Reply → Type 0
IsNext input a i s m replies =
    IsHeld input a (i + 1) s m × (reply_by (part_at input a i) (entry_at input a (i + 1)) (part_at input a (i + 1)) ≡ replies)

-- the lists of the n entries that follow the index, one after another
abbrev pub each_of : {A : Type 0} → (ℕ → List A) → ℕ → ℕ → List A
each_of f i zero = []
each_of f i (suc n) = each_of f i n ++ f (i + n)
