-- What a reshaping of a cut's table needs, and what it makes.
use Rattle.std.specs.Prelude.{◌≡◌, ℕ, ◌+◌, ◌<◌, ◌≤◌, ◌^◌, ◌==◌, true, false, List, [], length, Option, Some, None, if◌then◌else◌, slice_get}
use Rattle.rs_key.specs.Ranges.{first_bad_cut, is_next_to}
use Rattle.rs_entry.specs.declared.entry.Body.{Body}
use Rattle.rs_entry.specs.declared.entry.Body.TheVariants as body
use Rattle.rs_entry.specs.declared.entry.Entry.{Entry}
use Rattle.rs_entry.specs.declared.input.Input.{Input}
use Rattle.rs_entry.specs.declared.input.Store.{Store}
use Rattle.rs_region.specs.declared.state.RegionState.{RegionState}
use Rattle.rs_part.specs.Telling.{boot_states}
use Rattle.rs_check.specs.Plans.{address_of, reshapings_of}
use Rattle.rs_check.specs.Values.{region_of}
use Rattle.rs_table.specs.Changes.{changes, with_states}
use Rattle.rs_table.specs.Cuts.{AllTold, AreKnown, Cut, IsCut, IsFull, IsGreatest, Telling, is_on, birth_of, prepare_of, covers, entry_of_nth, index_after}
use Rattle.rs_table.specs.Rows.{IsTable, state_of}
use Rattle.rs_table.specs.Tellings.{can_follow, may_grow}

-- the cut with one more reshaping of the address
abbrev pub raised : Cut → ℕ → Cut
raised n a j = if j == a then n j + 1 else n j

-- the cut may cover the address's next reshaping
pub record IsNext (input : Input) (place : ℕ) (n : Cut) (a : ℕ) : Type 0 where
  pub cut : IsCut input place n
  pub on : is_on input place a ≡ true
  pub more : n a < length (reshapings_of input a)
  pub birth : covers n (birth_of input a) ≡ true
  pub prepare : covers n (prepare_of input a (n a + 1)) ≡ true

-- the least address whose next reshaping makes a greater cut
pub record IsLeastNext (input : Input) (place : ℕ) (n : Cut) (a : ℕ) : Type 0 where
  pub grows : IsCut input place (raised n a)
  pub least : (b : ℕ) → b < a → IsCut input place (raised n b) → ⊥

-- both numbers of the region's epoch are below 2^62
abbrev pub IsSmall : RegionState → Type 0
IsSmall s = (s.epoch.version < 2 ^ 62) × (s.epoch.conf_ver < 2 ^ 62)

-- the body's change can be made in a table, of a region that is s
abbrev pub MayChange : List RegionState → RegionState → Body → Type 0
MayChange rows s (body.Split side ids keys) = (length ids ≡ length keys) × (length keys ≤ 64) × (first_bad_cut s.range keys ≡ None)
MayChange rows s (body.Commit source commit carried) = (u : RegionState) × (state_of rows source ≡ Some u) × (is_next_to s.range u.range ≡ true) × (u.epoch.version < 2 ^ 62)
MayChange rows s b = Unit {0}

-- a region whose next reshaping a cut may cover, in the cut's table
pub record IsReady (rows : List RegionState) (s : RegionState) (b : Body) : Type 0 where
  pub small : IsSmall s
  pub may : MayChange rows s b

-- the states of the store's boot regions
abbrev pub boots_of : Option Store → List RegionState
boots_of None = []
boots_of (Some store) = boot_states store.regions

-- the regions that the store at the place has from the start
abbrev pub opening_rows : Input → ℕ → List RegionState
opening_rows input place = boots_of (slice_get input.stores place)

-- the cut that covers nothing
abbrev pub nothing_covered : Cut
nothing_covered a = 0

-- what holds of the tables of all cuts of a store
pub record Moves (input : Input) (place : ℕ) : Type 0 where
  pub few : (a : ℕ) → length (reshapings_of input a) < 2 ^ 62
  pub opens : IsTable input place nothing_covered (opening_rows input place)
  pub there : (n : Cut) (a : ℕ) (rows : List RegionState) → IsNext input place n a → IsTable input place n rows
      → (s : RegionState) × (e : Entry) × (state_of rows (region_of input a) ≡ Some s) × (entry_of_nth input a (n a + 1) ≡ Some e) × IsReady rows s e.body
  -- the change makes the table of the cut with the reshaping
  pub moves : (n : Cut) (a : ℕ) (rows : List RegionState) (s : RegionState) (e : Entry) → IsNext input place n a → IsTable input place n rows
      → state_of rows (region_of input a) ≡ Some s → entry_of_nth input a (n a + 1) ≡ Some e
      → IsTable input place (raised n a) (with_states (changes (address_of input a).0 (index_after input a (n a + 1)) rows s e.body) rows)
  -- where nothing can follow, the cut is the greatest of what was told
  pub greatest : (told : Telling) (n : Cut) → AreKnown input place told → IsCut input place n → AllTold told n → ((a : ℕ) → may_grow input told n a ≡ false) → IsGreatest input place told n
  -- and where nothing at all can follow, it covers every reshaping
  pub full : (n : Cut) → IsCut input place n → ((a : ℕ) → can_follow input place n a ≡ false) → IsFull input place n
  -- a reshaping more makes a cut only where it may follow
  pub only : (n : Cut) (a : ℕ) → IsCut input place n → IsCut input place (raised n a) → IsNext input place n a
