-- What a run of one store keeps: the regions, without writes and replies.
use Rattle.std.specs.Prelude.{ℕ, Bool, true, false, [], Option, Some, None, ◌<◌, ◌^◌, ◌≡◌, ◌≤◌, length, slice_get}
use Rattle.std.specs.Ordering.{nat_cmp}
use Rattle.std.specs.BTreeMap.{get}
use Rattle.rs_entry.specs.declared.entry.Body.{Body}
use Rattle.rs_entry.specs.declared.entry.Body.TheVariants as body
use Rattle.rs_entry.specs.declared.entry.Entry.{Entry}
use Rattle.rs_entry.specs.declared.input.Store.{Store}
use Rattle.rs_store.specs.declared.regions.Made.{Made}
use Rattle.rs_region.specs.declared.verdict.Verdict.{Verdict}
use Rattle.rs_region.specs.declared.verdict.Verdict.TheVariants as verdicts
use Rattle.rs_key.specs.Ranges.{first_bad_cut}
use Rattle.rs_region.specs.declared.state.RegionState.{RegionState}
pub use Rattle.rs_region.specs.Actions.{line_entry}
use Rattle.rs_store.specs.declared.fault.StepFault.{StepFault}
use Rattle.rs_store.specs.declared.regions.Regions.{Regions}
use Rattle.rs_store.specs.Stores.{ByRegion, Applied, Stepped, Went, Broke, next, own, is_prepared_for}

-- the regions that the code keeps, as the model sees them
abbrev pub seen : Regions → ByRegion
seen r id = get nat_cmp r.made id

-- these regions, with nothing written or replied
abbrev pub bare : ByRegion → Applied
bare f = record { region = f; writes = []; replies = [] }

-- what a run gives: the regions, or the fault of a step
pub data Run : Type 0 where
  Moved : ByRegion → Run
  Failed : StepFault → Run

-- a step without what it wrote and replied
abbrev pub forget : Stepped → Run
forget (Went g) = Moved g.region
forget (Broke fault) = Failed fault

-- what a call tells that answers a fault, or none, and leaves these regions
abbrev pub told : Option StepFault → ByRegion → Run
told None f = Moved f
told (Some fault) f = Failed fault

-- the next entry of the region, if it was made
abbrev pub next_in : Store → Applied → ℕ → Option Made → Option Entry
next_in store g id None = None
next_in store g id (Some r) = next store g id r

-- the region stands at its id, and its numbers are far from 2 ^ 64
pub record IsLow (id : ℕ) (r : Made) : Type 0 where
  pub named : r.state.region ≡ id
  pub version : r.state.epoch.version < 2 ^ 62
  pub conf_ver : r.state.epoch.conf_ver < 2 ^ 62
  pub applied : r.applied < 2 ^ 62

-- the same, with the numbers at most b
pub record IsNear (b id : ℕ) (r : Made) : Type 0 where
  pub named : r.state.region ≡ id
  pub version : r.state.epoch.version ≤ b
  pub conf_ver : r.state.epoch.conf_ver ≤ b
  pub applied : r.applied ≤ b

-- each region that was made is within the bound
abbrev pub IsWithin : ℕ → ByRegion → Type 0
IsWithin b f = (id : ℕ) (r : Made) → f id ≡ Some r → IsNear b id r

-- each region that was made has low numbers
abbrev pub IsAllLow : ByRegion → Type 0
IsAllLow f = (id : ℕ) (r : Made) → f id ≡ Some r → IsLow id r

-- a split has as many ids as keys, and at most 64
abbrev pub IsFormed : Body → Type 0
IsFormed (body.Split side ids keys) = (length ids ≡ length keys) × (length keys ≤ 64)
IsFormed b = Unit {0}

-- what an accepted verdict says of a state and a body: cuts are good, and who commits isn't merging
abbrev pub IsGood : RegionState → Body → Type 0
IsGood s (body.Split side ids keys) = first_bad_cut s.range keys ≡ None
IsGood s (body.Commit source commit carried) = (id at : ℕ) → is_prepared_for id at s.mode ≡ false
IsGood s b = Unit {0}

-- each entry in the store's own logs is well formed
abbrev pub IsFormedStore : Store → Type 0
IsFormedStore store = (id i : ℕ) (e : Entry) → slice_get (own store id) i ≡ Some e → IsFormed e.body

-- the verdict breaks a law
abbrev pub is_bad : Verdict → Bool
is_bad verdicts.BadRollback = true
is_bad v = false

-- an entry that changes no region's state
abbrev pub is_plain : Body → Bool
is_plain body.Empty = true
is_plain (body.Write ops) = true
is_plain b = false

-- an entry with this verdict leaves its region as it was, but for the index
abbrev pub passes : Verdict → Body → Bool
passes verdicts.Accept b = is_plain b
passes verdicts.BadRollback b = false
passes v b = true

-- an entry of which an accepted one changes its own region alone
abbrev pub is_quiet : Body → Bool
is_quiet (body.Split side ids keys) = false
is_quiet (body.Commit source commit carried) = false
is_quiet b = true
