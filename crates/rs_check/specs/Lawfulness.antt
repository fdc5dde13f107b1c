-- What holds of the regions of each lawful plan. Machines that go through a plan's entries stand on it.
use Rattle.std.specs.Prelude.{◌≡◌, ℕ, ◌+◌, ◌<◌, ◌≤◌, ◌^◌, ◌==◌, true, false, ◌&&◌, List, length, if◌then◌else◌, Some, IsSome, position}
use Rattle.std.specs.List.{AllByRecursion, find}
use Rattle.rs_key.specs.Ranges.{holds}
use Rattle.rs_entry.specs.declared.entry.Body.TheVariants as body
use Rattle.rs_entry.specs.declared.entry.Carried.{Carried}
use Rattle.rs_entry.specs.declared.entry.Entry.{Entry}
use Rattle.rs_entry.specs.declared.entry.Side.{Side}
use Rattle.rs_entry.specs.declared.input.Boot.{Boot}
use Rattle.rs_entry.specs.declared.input.Input.{Input}
use Rattle.rs_entry.specs.declared.input.Store.{Store}
use Rattle.rs_entry.specs.declared.outcome.Mode.TheVariants as mode
use Rattle.rs_region.specs.Verdicts.{verdict}
use Rattle.rs_region.specs.Reshapings.{boot, split_new}
use Rattle.rs_region.specs.declared.state.RegionState.{RegionState}
use Rattle.rs_region.specs.declared.verdict.Verdict.TheVariants as verdicts
use Rattle.rs_store.specs.Stores.{is_accept, is_live, is_reshaping}
use Rattle.rs_part.specs.Items.{no_items, kept_items}
use Rattle.rs_part.specs.Parts.{Part, mode_before}
use Rattle.rs_part.specs.Scripts.{after_by}
use Rattle.rs_check.specs.declared.plan.Maker.TheVariants as makers
use Rattle.rs_check.specs.Plans.{rows_of, is_at, address_of, stop_of, ends_of, maker_of}
use Rattle.rs_check.specs.Values.{count_of, region_of, store_at, part_on, part_at, entry_at, reshaped_by}

-- the address's entry after the index, accepted by the part there
pub record Accepted (input : Input) (a i : ℕ) (v : Part) (e : Entry) : Type 0 where
  pub from : 5 ≤ i
  pub to : i < stop_of input a
  pub part : part_at input a i ≡ Some v
  pub entry : entry_at input a (i + 1) ≡ Some e
  pub accepted : verdict v.state e ≡ verdicts.Accept

-- a region on the address's store has its address
pub record Placed (input : Input) (a region b : ℕ) : Type 0 where
  pub found : position (is_at (address_of input a).0 region) (rows_of input) ≡ Some b
  pub address : address_of input b ≡ ((address_of input a).0, region)
  pub within : b < count_of input

-- a new region of the split at the index has an address on the store, and begins with its share of the part
pub record Born (input : Input) (a index : ℕ) (v : Part) (s : RegionState) : Type 0 where
  pub b : ℕ
  pub placed : Placed input a s.region b
  pub maker : maker_of input b ≡ makers.Split a index
  pub part : part_at input b 5 ≡ Some (record { state = s; items = kept_items s.range v.items })

-- the source of an accepted commit rested at its prepare, for this target, and ends merged into it
pub record Source (input : Input) (a source commit : ℕ) : Type 0 where
  pub b : ℕ
  pub placed : Placed input a source b
  pub stop : stop_of input b ≡ commit
  pub ends : ends_of input b ≡ mode.Merged (region_of input a)
  pub part : Part
  pub is_part : part_at input b commit ≡ Some part
  pub merging : part.state.mode ≡ mode.Merging (region_of input a) commit

-- the target of a region that ends merged has an accepted commit of it
pub record Target (input : Input) (a target : ℕ) : Type 0 where
  pub b : ℕ
  pub placed : Placed input a target b
  pub i : ℕ
  pub part : Part
  pub entry : Entry
  pub carried : List Carried
  pub accepted : Accepted input b i part entry
  pub body : entry.body ≡ body.Commit (region_of input a) (stop_of input a) carried

-- what holds of the regions of every lawful input
pub record PlanLaws (input : Input) : Type 0 where
  -- where a region's entries begin and end
  pub starts : (a : ℕ) → a < count_of input → 5 ≤ stop_of input a
  pub ends_below : (a : ℕ) → a < count_of input → stop_of input a < 2 ^ 62
  -- it has a part at each index from 5 to its stop, and up to there each next entry
  pub reached : (a i : ℕ) → a < count_of input → 5 ≤ i → i ≤ stop_of input a → IsSome (part_at input a i)
  pub entries : (a i : ℕ) → a < count_of input → 5 ≤ i → i < stop_of input a → IsSome (entry_at input a (i + 1))
  -- each entry makes the next part of the part before it
  pub steps : (a i : ℕ) (v : Part) (e : Entry) → a < count_of input → 5 ≤ i → i < stop_of input a → part_at input a i ≡ Some v → entry_at input a (i + 1) ≡ Some e
      → after_by (verdict v.state e) (part_on input a) (region_of input a) (i + 1) v e.body ≡ part_at input a (i + 1)
  -- the part is the region's, live, with small numbers, and has keys of its range alone
  pub named : (a i : ℕ) (v : Part) → a < count_of input → part_at input a i ≡ Some v → v.state.region ≡ region_of input a
  pub live : (a i : ℕ) (v : Part) → a < count_of input → part_at input a i ≡ Some v → is_live v.state.mode ≡ true
  pub small : (a i : ℕ) (v : Part) → a < count_of input → part_at input a i ≡ Some v → (v.state.epoch.version < 2 ^ 62) × (v.state.epoch.conf_ver < 2 ^ 62)
  pub inside : (a i : ℕ) (v : Part) (key : List ℕ) → a < count_of input → part_at input a i ≡ Some v → holds v.state.range key ≡ false → v.items key ≡ no_items key
  -- how regions begin
  pub opens : (a : ℕ) → a < count_of input → maker_of input a ≡ makers.Boot
      → (s : Store) × (b : Boot) × (store_at input a ≡ Some s) × (b.region ≡ region_of input a)
      × (part_at input a 5 ≡ Some (record { state = boot b.region b.range b.peers; items = no_items })) × (find (λ x. x.region == region_of input a) s.regions ≡ Some b)
  pub even : (a i : ℕ) (e : Entry) (side : Side) (ids : List ℕ) (keys : List (List ℕ)) → a < count_of input → entry_at input a i ≡ Some e → e.body ≡ body.Split side ids keys → length ids ≡ length keys
  pub births : (a i : ℕ) (v : Part) (e : Entry) (side : Side) (ids : List ℕ) (keys : List (List ℕ)) → a < count_of input → Accepted input a i v e → e.body ≡ body.Split side ids keys
      → AllByRecursion (Born input a (i + 1) v) (split_new v.state side ids keys)
  -- how regions end
  pub merges : (a i : ℕ) (v : Part) (e : Entry) (source commit : ℕ) (carried : List Carried) → a < count_of input → Accepted input a i v e → e.body ≡ body.Commit source commit carried → Source input a source commit
  pub merged : (a target : ℕ) → a < count_of input → ends_of input a ≡ mode.Merged target → Target input a target
  pub last : (a : ℕ) (v : Part) → a < count_of input → part_at input a (stop_of input a) ≡ Some v → ((target : ℕ) → ends_of input a ≡ mode.Merged target → ⊥) → v.state.mode ≡ mode_before (ends_of input a)
  -- reshapings are the accepted entries that change a region
  pub reshapes : (a i : ℕ) (v : Part) (e : Entry) → a < count_of input → 5 ≤ i → i < stop_of input a → part_at input a i ≡ Some v → entry_at input a (i + 1) ≡ Some e
      → reshaped_by input a (i + 1) ≡ (if is_accept (verdict v.state e) && is_reshaping e.body then reshaped_by input a i + 1 else reshaped_by input a i)
  pub unshaped : (a : ℕ) → a < count_of input → reshaped_by input a 5 ≡ 0

-- two addresses of one region, each on its store, have the same part at each index that both come to
abbrev pub StoresAgree : Input → Type 0
StoresAgree input = (a b i : ℕ) → a < count_of input → b < count_of input → region_of input a ≡ region_of input b → 5 ≤ i → i ≤ stop_of input a → i ≤ stop_of input b → part_at input a i ≡ part_at input b i
