-- The endings that a control machine holds, each in the slot of its address.
use Rattle.std.specs.Prelude.{◌≡◌, ℕ, ◌+◌, ◌-◌, ◌==◌, ◌&&◌, leb, Bool, true, false, List, Option, Some, None, IsSome, if◌then◌else◌, slice_get, slice_set}
use Rattle.rs_entry.specs.declared.input.Input.{Input}
use Rattle.rs_store.specs.Stores.{first_some}
use Rattle.rs_msg.specs.declared.ending.Ending.{Ending}
use Rattle.rs_table.specs.Cuts.{is_on}

-- the slot has no ending yet
abbrev pub is_free : Option Ending → Bool
is_free None = true
is_free (Some e) = false

-- the ending in the slot, if there are both
abbrev pub ending_in : Option (Option Ending) → Option Ending
ending_in None = None
ending_in (Some slot) = slot

-- the ending that is held for an address, where the first slot is that of the address `first`
abbrev pub held_in : ℕ → List (Option Ending) → ℕ → Option Ending
held_in first slots a = if leb first a then ending_in (slice_get slots (a - first)) else None

-- each ending is of the plan, and stands in the slot of its address
abbrev pub AreOwn : Input → ℕ → List (Option Ending) → Type 0
AreOwn input first slots = (k : ℕ) (e : Ending) → slice_get slots k ≡ Some (Some e) → (e.plan.now ≡ input) × (e.address ≡ first + k)

-- there is a slot, and it is free
abbrev pub is_free_slot : Option (Option Ending) → Bool
is_free_slot None = false
is_free_slot (Some slot) = is_free slot

-- the slot at the place exists and is free
abbrev pub is_free_at : List (Option Ending) → ℕ → Bool
is_free_at slots k = is_free_slot (slice_get slots k)

-- the slots, once an ending was put where it was free
abbrev pub with_ending : List (Option Ending) → ℕ → Ending → List (Option Ending)
with_ending slots k e = if is_free_at slots k then slice_set slots k (Some e) else slots

-- ---- by address

-- the endings that are held once this one has come: the first one of an address stays, and that of another store's
-- address isn't held
abbrev pub held_with : Input → ℕ → Ending → (ℕ → Option Ending) → ℕ → Option Ending
held_with input place e held a = if (a == e.address) && is_on input place a then first_some (held a) (Some e) else held a

-- each address of the store has its ending
abbrev pub AreAllHeld : Input → ℕ → (ℕ → Option Ending) → Type 0
AreAllHeld input place held = (a : ℕ) → is_on input place a ≡ true → IsSome (held a)
