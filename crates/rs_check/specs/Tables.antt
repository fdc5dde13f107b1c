-- Regions as a control machine tables them, and which of them holds a key.
use Rattle.std.specs.Prelude.{ℕ, ◌&&◌, Bool, List, Option, Some, None, find}
use Rattle.rs_key.specs.Ranges.{holds}
use Rattle.rs_region.specs.declared.state.RegionState.{RegionState}
use Rattle.rs_store.specs.Stores.{is_live}

-- a live region that holds the key
abbrev pub owns : List ℕ → RegionState → Bool
owns key state = is_live state.mode && holds state.range key

-- the id of the state's region
abbrev pub region_of : Option RegionState → Option ℕ
region_of None = None
region_of (Some state) = Some state.region

-- the first live region that holds the key
abbrev pub owner : List RegionState → List ℕ → Option ℕ
owner rows key = region_of (find (owns key) rows)
