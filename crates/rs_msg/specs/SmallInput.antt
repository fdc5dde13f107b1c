-- The input of the worked cases: two regions side by side, the first of which is merged into the second.
use Rattle.std.specs.Prelude.{ℕ, [], ◌∷◌, Some, None}
use Rattle.rs_key.specs.Ranges.{Bounds}
use Rattle.rs_entry.specs.declared.entry.Body.{Body}
use Rattle.rs_entry.specs.declared.entry.Body.TheVariants as body
use Rattle.rs_entry.specs.declared.input.Boot.{Boot}
use Rattle.rs_entry.specs.declared.input.Log.{Log}
use Rattle.rs_entry.specs.declared.input.Store.{Store}
use Rattle.rs_entry.specs.declared.input.Input.{Input}
use Rattle.rs_entry.specs.declared.outcome.Mode.{Mode}
use Rattle.rs_entry.specs.declared.outcome.Mode.TheVariants as mode
use Rattle.rs_region.specs.declared.state.RegionState.{RegionState}

-- the keys below m
abbrev pub below_m : Bounds
below_m = record { start = None; end = Some (0x6d ∷ []) }

-- the keys from m on
abbrev pub from_m : Bounds
from_m = record { start = Some (0x6d ∷ []); end = None }

-- all keys
abbrev pub all_keys : Bounds
all_keys = record { start = None; end = None }

-- a boot region with no peers
abbrev pub boot_region : ℕ → Bounds → Boot
boot_region region range = record { region = region; range = range; peers = [] }

-- a log with one entry
abbrev pub log_of : ℕ → Body → Log
log_of region b = record { region = region; entries = record { index = 6; epoch = record { conf_ver = 1; version = 1 }; body = b } ∷ [] }

-- a store with two boot regions, of which the second joins the first
abbrev pub small_store : Store
small_store = record {
  id = 1;
  regions = boot_region 1 below_m ∷ boot_region 2 from_m ∷ [];
  logs = log_of 1 (body.Prepare 2) ∷ log_of 2 (body.Commit 1 6 []) ∷ [];
}

-- the input with this store alone
abbrev pub small_input : Input
small_input = record { version = 1; stores = small_store ∷ [] }

-- ---- its regions

-- a region with these numbers of its epoch
abbrev pub region_with : ℕ → ℕ → ℕ → Bounds → Mode → RegionState
region_with region conf_ver version range m =
    record { region = region; epoch = record { conf_ver = conf_ver; version = version }; range = range; peers = []; mode = m }

-- the first region at the start
abbrev pub opened : RegionState
opened = region_with 1 1 1 below_m mode.Normal

-- the source after its prepare
abbrev pub prepared : RegionState
prepared = region_with 1 2 2 below_m (mode.Merging 2 6)

-- the second region after its commit
abbrev pub joined : RegionState
joined = region_with 2 1 3 all_keys mode.Normal
