-- What a plan tells of an input.
use Rattle.std.specs.Prelude.{ℕ, slice_get, position, ◌==◌, ltb, ◌&&◌, ◌||◌, ◌≡◌, Bool, true, length, List, [], ◌∷◌, Option, Some, None}
use Rattle.std.specs.List.{AllByRecursion, flat_map, filter_map}
use Rattle.rs_entry.specs.declared.input.Input.{Input}
use Rattle.rs_entry.specs.declared.input.Store.{Store}
use Rattle.rs_store.specs.declared.regions.Made.{Made}
use Rattle.rs_check.specs.declared.rows.Row.{Row}
use Rattle.rs_check.specs.declared.plan.Maker.{Maker}
use Rattle.rs_check.specs.declared.plan.Maker.TheVariants as makers
use Rattle.rs_entry.specs.declared.outcome.Mode.{Mode}
use Rattle.rs_entry.specs.declared.outcome.Mode.TheVariants as modes
use Rattle.rs_store.specs.declared.regions.Origin.{Origin}
use Rattle.rs_store.specs.declared.regions.Origin.TheVariants as origins
use Rattle.rs_check.specs.declared.log_check.CheckError.{CheckError}
use Rattle.rs_check.specs.declared.log_check.CheckError.TheVariants as errors
use Rattle.rs_check.specs.Laws.{check}
use Rattle.rs_store.specs.Runs.{Run, Moved, Failed}
use Rattle.rs_store.specs.Stores.{own, ByRegion, Stepped, Went, Broke, ids_of, last}

-- what a plan keeps of a region that was made
abbrev pub row_of : Store → ℕ → Option Made → Option Row
row_of store id None = None
row_of store id (Some r) = Some (record {
  store = store.id;
  region = id;
  origin = r.origin;
  stop = r.applied;
  own = length (own store id);
  ends = r.state.mode;
  reshapings = r.reshapings;
})

-- the rows of those of these regions that were made
abbrev pub rows_in : Store → ByRegion → List ℕ → List Row
rows_in store f ids = filter_map (λ id. row_of store id (f id)) ids

-- the rows of the store after this run; none if the run failed
abbrev pub rows_by : Store → Run → List Row
rows_by store (Failed fault) = []
rows_by store (Moved f) = rows_in store f (ids_of store)

-- the rows of the store after this step; none if the step broke a law
abbrev pub rows_at : Store → Stepped → List Row
rows_at store (Broke fault) = []
rows_at store (Went g) = rows_in store g.region (ids_of store)

-- the rows of a store, after its canonical order
unfoldable pub store_rows : Store → List Row
store_rows store = rows_at store (last store)

-- the addresses of an input, in order of stores and regions
unfoldable pub rows_of : Input → List Row
rows_of input = flat_map store_rows input.stores

-- the row is that of the region in the store
abbrev pub is_at : ℕ → ℕ → Row → Bool
is_at store region r = (r.store == store) && (r.region == region)

-- an earlier store's, or on the store a lower region's
abbrev pub is_before : ℕ → ℕ → Row → Bool
is_before store region r = ltb r.store store || ((r.store == store) && ltb r.region region)

-- each row stands before those that follow it
abbrev pub AreOrdered : List Row → Type 0
AreOrdered [] = Unit {0}
AreOrdered (x ∷ xs) = AllByRecursion (λ y. is_before y.store y.region x ≡ true) xs × AreOrdered xs

-- ---- what the rows tell, by address

-- the index of the last entry that the region applies
abbrev pub stop_in : Option Row → ℕ
stop_in None = 5
stop_in (Some r) = r.stop

-- the index of the last entry applied
abbrev pub stop_of : Input → ℕ → ℕ
stop_of input a = stop_in (slice_get (rows_of input) a)

-- the number of entries that the region applies from its own log
abbrev pub own_in : Option Row → ℕ
own_in None = 0
own_in (Some r) = r.own

-- how many entries of its own log there are
abbrev pub own_of : Input → ℕ → ℕ
own_of input a = own_in (slice_get (rows_of input) a)

-- the mode in which the region ends
abbrev pub ends_in : Option Row → Mode
ends_in None = modes.Normal
ends_in (Some r) = r.ends

-- the mode at the end
abbrev pub ends_of : Input → ℕ → Mode
ends_of input a = ends_in (slice_get (rows_of input) a)

-- the indexes of the entries that reshape the region
abbrev pub reshapings_in : Option Row → List ℕ
reshapings_in None = []
reshapings_in (Some r) = r.reshapings

-- the indexes of the accepted reshapings
abbrev pub reshapings_of : Input → ℕ → List ℕ
reshapings_of input a = reshapings_in (slice_get (rows_of input) a)

-- made by a split of the region in the row, or at boot if there is no such row
abbrev pub split_off : Option ℕ → ℕ → Maker
split_off None index = makers.Boot
split_off (Some parent) index = makers.Split parent index

-- what made a region of the store, with the parent as a row
abbrev pub made_by : List Row → ℕ → Origin → Maker
made_by rows store origins.Boot = makers.Boot
made_by rows store (origins.Split parent index) = split_off (position (is_at store parent) rows) index

-- what made the row's region
abbrev pub maker_in : List Row → Option Row → Maker
maker_in rows None = makers.Boot
maker_in rows (Some r) = made_by rows r.store r.origin

-- how the region came to be, with its parent's address
abbrev pub maker_of : Input → ℕ → Maker
maker_of input a = maker_in (rows_of input) (slice_get (rows_of input) a)

-- the row's store and region
abbrev pub address_in : Option Row → ℕ × ℕ
address_in None = (0, 0)
address_in (Some r) = (r.store, r.region)

-- the ids of store and region
abbrev pub address_of : Input → ℕ → ℕ × ℕ
address_of input a = address_in (slice_get (rows_of input) a)

-- a law fault is the input's first
abbrev pub IsAnswer : Input → CheckError → Type 0
IsAnswer input (errors.Law fault) = check input ≡ Some fault
IsAnswer input errors.NoMemory = Unit {0}
