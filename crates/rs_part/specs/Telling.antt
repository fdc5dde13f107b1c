-- A store whose logs and opening regions are those of a script.
use Rattle.std.specs.Prelude.{◌≡◌, ℕ, ◌+◌, ◌≤◌, true, List, map, length, Some}
use Rattle.std.specs.List.{AllByRecursion}
use Rattle.rs_key.specs.Ranges.{is_range}
use Rattle.rs_entry.specs.declared.entry.Body.TheVariants as body
use Rattle.rs_entry.specs.declared.entry.Entry.{Entry}
use Rattle.rs_entry.specs.declared.entry.Side.{Side}
use Rattle.rs_entry.specs.declared.input.Boot.{Boot}
use Rattle.rs_entry.specs.declared.input.Store.{Store}
use Rattle.rs_region.specs.Reshapings.{boot}
use Rattle.rs_region.specs.declared.state.RegionState.{RegionState}
use Rattle.rs_store.specs.declared.regions.Made.{Made}
use Rattle.rs_store.specs.Stores.{Applied, next}
use Rattle.rs_part.specs.Ranges.{EachOther, EachId, StatesApart}
use Rattle.rs_part.specs.Scripts.{Script, Opened, SplitOff}

-- the script has each entry that the store may take, and each split's children as split off by it, each once
pub record Tells (script : Script) (store : Store) : Type 0 where
  pub says : (g : Applied) (id : ℕ) (r : Made) (e : Entry) → 5 ≤ r.applied → next store g id r ≡ Some e → script.line id (r.applied + 1) ≡ Some e
  pub parents : (id index : ℕ) (e : Entry) (side : Side) (ids : List ℕ) (keys : List (List ℕ)) → script.line id index ≡ Some e → e.body ≡ body.Split side ids keys
      → AllByRecursion (λ child. script.birth child ≡ SplitOff id index) ids
  pub distinct : (id index : ℕ) (e : Entry) (side : Side) (ids : List ℕ) (keys : List (List ℕ)) → script.line id index ≡ Some e → e.body ≡ body.Split side ids keys → EachOther ids
  pub lengths : (id index : ℕ) (e : Entry) (side : Side) (ids : List ℕ) (keys : List (List ℕ)) → script.line id index ≡ Some e → e.body ≡ body.Split side ids keys → length ids ≡ length keys

-- the regions that a store has from the start
abbrev pub boot_states : List Boot → List RegionState
boot_states boots = map (λ b. boot b.region b.range b.peers) boots

-- they begin as the script says, each once, in ranges that share no key
pub record Begins (script : Script) (store : Store) : Type 0 where
  pub births : AllByRecursion (λ s. script.birth s.region ≡ Opened s.range s.peers) (boot_states store.regions)
  pub shapes : AllByRecursion (λ s. is_range s.range.start s.range.end ≡ true) (boot_states store.regions)
  pub ids : EachId (boot_states store.regions)
  pub apart : StatesApart (boot_states store.regions)
