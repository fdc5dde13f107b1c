-- What a reshaping does to a table.
use Rattle.std.specs.Prelude.{ℕ, suc, ◌==◌, ltb, Bool, false, List, [], ◌∷◌, Option, Some, None, if◌then◌else◌}
use Rattle.rs_entry.specs.declared.entry.Body.{Body}
use Rattle.rs_entry.specs.declared.entry.Body.TheVariants as body
use Rattle.rs_region.specs.Reshapings.{split_kept, split_new, prepared, rolled_back, committed, merged_into}
use Rattle.rs_region.specs.declared.state.RegionState.{RegionState}
use Rattle.rs_store.specs.Stores.{conf_changed}
use Rattle.rs_table.specs.Rows.{state_of}

-- the states with this one at its region's place
abbrev pub with_state : RegionState → List RegionState → List RegionState
with_state s [] = s ∷ []
with_state s (r ∷ rs) =
    if ltb r.region s.region then r ∷ with_state s rs else (if r.region == s.region then s ∷ rs else s ∷ r ∷ rs)

-- the place where a region is put: behind those of lesser id
abbrev pub place_of : ℕ → List RegionState → ℕ
place_of id [] = 0
place_of id (r ∷ rs) = if ltb r.region id then suc (place_of id rs) else 0

-- the region stands at its place
abbrev pub is_there : ℕ → List RegionState → Bool
is_there id [] = false
is_there id (r ∷ rs) = if ltb r.region id then is_there id rs else r.region == id

-- one after the other
abbrev pub with_states : List RegionState → List RegionState → List RegionState
with_states [] rows = rows
with_states (s ∷ ss) rows = with_states ss (with_state s rows)

-- the target with the source's range, and the source as merged
abbrev pub joined : RegionState → Option RegionState → List RegionState
joined s None = []
joined s (Some u) = committed s u ∷ merged_into u s.region ∷ []

-- the states that an accepted entry at the index leaves on the store, in a table, of a region that was s: its own, and
-- those of the regions that it makes or merges
abbrev pub changes : ℕ → ℕ → List RegionState → RegionState → Body → List RegionState
changes store index rows s body.Empty = []
changes store index rows s (body.Write ops) = []
changes store index rows s (body.Split side ids keys) = split_kept s side keys ∷ split_new s side ids keys
changes store index rows s (body.Prepare target) = prepared s target index ∷ []
changes store index rows s (body.Commit source commit carried) = joined s (state_of rows source)
changes store index rows s (body.Rollback commit) = rolled_back s ∷ []
changes store index rows s (body.Conf change) = conf_changed store s change ∷ []
