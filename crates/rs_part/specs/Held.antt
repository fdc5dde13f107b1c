-- Which keys a store's regions hold.
use Rattle.std.specs.Prelude.{◌≡◌, ℕ, true, List, Some}
use Rattle.rs_key.specs.Ranges.{holds}
use Rattle.rs_entry.specs.declared.input.Boot.{Boot}
use Rattle.rs_entry.specs.declared.input.Store.{Store}
use Rattle.rs_store.specs.declared.regions.Made.{Made}
use Rattle.rs_store.specs.Stores.{Applied, is_unmerged}
use Rattle.rs_part.specs.Counting.{IsAmong}

-- an unmerged region holds the key
pub record Held (g : Applied) (key : List ℕ) : Type 0 where
  pub id : ℕ
  pub r : Made
  pub here : g.region id ≡ Some r
  pub unmerged : is_unmerged r.state.mode ≡ true
  pub has : holds r.state.range key ≡ true

-- the same keys are held in both
abbrev pub SameKeys : Applied → Applied → Type 0
SameKeys g h = (key : List ℕ) → (Held g key → Held h key) × (Held h key → Held g key)

-- exactly one unmerged region holds the key
pub record HeldOnce (g : Applied) (key : List ℕ) : Type 0 where
  pub held : Held g key
  pub only : (other : Held g key) → other.id ≡ held.id

-- one of the regions that the store begins with holds the key
abbrev pub IsBootKey : Store → List ℕ → Type 0
IsBootKey store key = (b : Boot) × (IsAmong b store.regions) × (holds b.range key ≡ true)
