-- Which keys the regions of a table hold.
use Rattle.std.specs.Prelude.{◌≡◌, ℕ, Bool, true, false, ◌&&◌, List, Option, Some, None, slice_get}
use Rattle.std.specs.List.{list_any}
use Rattle.rs_key.specs.Ranges.{holds}
use Rattle.rs_entry.specs.declared.input.Input.{Input}
use Rattle.rs_entry.specs.declared.input.Store.{Store}
use Rattle.rs_region.specs.declared.state.RegionState.{RegionState}
use Rattle.rs_store.specs.Stores.{is_live, is_unmerged}
use Rattle.rs_part.specs.Counting.{IsAmong}
use Rattle.rs_part.specs.Ranges.{Apart}
use Rattle.rs_check.specs.Tables.{owner}
use Rattle.rs_table.specs.Cuts.{Cut, IsCut, IsFull, is_on}
use Rattle.rs_table.specs.Rows.{IsTable, final_rows, final_state, row_at, state_of, table_of}
use Rattle.rs_check.specs.Values.{region_of}

-- the region isn't merged, and holds the key
abbrev pub has_key : List ℕ → RegionState → Bool
has_key key s = is_unmerged s.mode && holds s.range key

-- some region that isn't merged holds the key
abbrev pub is_held : List RegionState → List ℕ → Bool
is_held rows key = list_any (has_key key) rows

-- a boot region of the store holds the key
abbrev pub boots_hold : Option Store → List ℕ → Bool
boots_hold None key = false
boots_hold (Some store) key = list_any (λ b. holds b.range key) store.regions

-- a bootstrap region of the store at the place holds the key
abbrev pub is_boot_key : Input → ℕ → List ℕ → Bool
is_boot_key input place key = boots_hold (slice_get input.stores place) key

-- the rows' unmerged regions hold the keys of the boot regions, each exactly once
pub record AreWhole (input : Input) (place : ℕ) (rows : List RegionState) : Type 0 where
  -- the ranges of two regions that aren't merged are apart
  pub apart : (s t : RegionState) → IsAmong s rows → IsAmong t rows → (s.region ≡ t.region → ⊥) → is_unmerged s.mode ≡ true → is_unmerged t.mode ≡ true → Apart s.range t.range
  -- and they hold exactly the keys that the bootstrap regions held
  pub covers : (key : List ℕ) → is_held rows key ≡ is_boot_key input place key

-- the live region of this id holds the key
pub record IsOwner (rows : List RegionState) (key : List ℕ) (id : ℕ) : Type 0 where
  pub state : RegionState
  pub among : IsAmong state rows
  pub named : state.region ≡ id
  pub live : is_live state.mode ≡ true
  pub holds : holds state.range key ≡ true

-- no live region holds the key
abbrev pub NoneOwns : List RegionState → List ℕ → Type 0
NoneOwns rows key = (s : RegionState) → IsAmong s rows → is_live s.mode ≡ true → holds s.range key ≡ true → ⊥

-- what holds of the tables of the cuts of a store
pub record TableLaws (input : Input) (place : ℕ) : Type 0 where
  -- each cut has a table, and no other
  pub tables : (n : Cut) → IsCut input place n → IsTable input place n (table_of input place n)
  pub unique : (n : Cut) (rows : List RegionState) → IsCut input place n → IsTable input place n rows → rows ≡ table_of input place n
  pub whole : (n : Cut) (rows : List RegionState) → IsCut input place n → IsTable input place n rows → AreWhole input place rows
  -- a live region that holds a key is the one that is found by it
  pub owned : (n : Cut) (rows : List RegionState) (s : RegionState) (key : List ℕ) → IsCut input place n → IsTable input place n rows → IsAmong s rows → is_live s.mode ≡ true → holds s.range key ≡ true → owner rows key ≡ Some s.region
  -- what a table says of an address's region
  pub found : (n : Cut) (rows : List RegionState) (a : ℕ) → IsTable input place n rows → is_on input place a ≡ true → state_of rows (region_of input a) ≡ row_at input place n a
  -- the table of all reshapings has each region as the plan ends it
  pub ends : (n : Cut) (rows : List RegionState) → IsCut input place n → IsFull input place n → IsTable input place n rows → rows ≡ final_rows input place
  pub full : (n : Cut) (a : ℕ) → IsCut input place n → IsFull input place n → is_on input place a ≡ true → row_at input place n a ≡ final_state input a
