-- What holds of a store's regions after any steps.
use Rattle.std.specs.Prelude.{◌≡◌, ℕ, ◌+◌, ◌≤◌, true, Some}
use Rattle.rs_key.specs.Ranges.{is_range}
use Rattle.rs_entry.specs.declared.entry.Body.TheVariants as body
use Rattle.rs_entry.specs.declared.entry.Change.{Change}
use Rattle.rs_entry.specs.declared.entry.Entry.{Entry}
use Rattle.rs_entry.specs.declared.input.Store.{Store}
use Rattle.rs_entry.specs.declared.outcome.Mode.TheVariants as mode
use Rattle.rs_region.specs.Verdicts.{verdict}
use Rattle.rs_region.specs.declared.verdict.Verdict.TheVariants as verdicts
use Rattle.rs_store.specs.declared.regions.Made.{Made}
use Rattle.rs_store.specs.Stores.{Applied, own, is_live, is_paused, is_unmerged, is_removal_of}
use Rattle.rs_part.specs.Parts.{Part, part_of}
use Rattle.rs_part.specs.Ranges.{Apart}
use Rattle.rs_part.specs.Scripts.{Script, SplitOff, IsPart}

-- the region's entry after index k is accepted and takes this store out of its peers
pub record Removal (script : Script) (store id k : ℕ) : Type 0 where
  pub past : 5 ≤ k
  pub part : Part
  pub entry : Entry
  pub change : Change
  pub is_part : IsPart script id k part
  pub line : script.line id (k + 1) ≡ Some entry
  pub body : entry.body ≡ body.Conf change
  pub accepted : verdict part.state entry ≡ verdicts.Accept
  pub own_peer : is_removal_of store change ≡ true

-- what holds of the regions that a store made at each step
pub record Sound (script : Script) (store : Store) (g : Applied) : Type 0 where
  pub since : (id : ℕ) (r : Made) → g.region id ≡ Some r → 5 ≤ r.applied
  pub named : (id : ℕ) (r : Made) → g.region id ≡ Some r → r.state.region ≡ id
  pub shaped : (id : ℕ) (r : Made) → g.region id ≡ Some r → is_range r.state.range.start r.state.range.end ≡ true
  -- unmerged regions share no key
  pub apart : (a b : ℕ) (r s : Made) → (a ≡ b → ⊥) → g.region a ≡ Some r → g.region b ≡ Some s → is_unmerged r.state.mode ≡ true → is_unmerged s.state.mode ≡ true → Apart r.state.range s.state.range
  -- an unmerged region has its part of the script
  pub parts : (id : ℕ) (r : Made) → g.region id ≡ Some r → is_unmerged r.state.mode ≡ true → IsPart script id r.applied (part_of g r)
  -- a region is marked as removed exactly where its last entry removed it
  pub marked : (id : ℕ) (r : Made) → g.region id ≡ Some r → r.state.mode ≡ mode.Removed → (k : ℕ) × (r.applied ≡ k + 1) × Removal script store.id id k
  pub unmarked : (id k : ℕ) (r : Made) → g.region id ≡ Some r → is_live r.state.mode ≡ true → r.applied ≡ k + 1 → Removal script store.id id k → ⊥
  -- a paused region rests at its commit
  pub rests : (id : ℕ) (r : Made) (target commit : ℕ) → g.region id ≡ Some r → r.state.mode ≡ mode.Merging target commit → is_paused (own store id) r.state ≡ true → r.applied ≡ commit
  -- the parent of what was split off has applied the split
  pub makers : (id : ℕ) (r : Made) (parent index : ℕ) → g.region id ≡ Some r → script.birth id ≡ SplitOff parent index → (t : Made) × (g.region parent ≡ Some t) × (index ≤ t.applied)
