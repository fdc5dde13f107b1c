-- What merges and splits leave behind for good.
use Rattle.std.specs.Prelude.{◌≡◌, ℕ, ◌+◌, ◌≤◌, true, List, Some}
use Rattle.std.specs.List.{AllByRecursion}
use Rattle.rs_entry.specs.declared.entry.Body.TheVariants as body
use Rattle.rs_entry.specs.declared.entry.Carried.{Carried}
use Rattle.rs_entry.specs.declared.entry.Entry.{Entry}
use Rattle.rs_entry.specs.declared.entry.Side.{Side}
use Rattle.rs_entry.specs.declared.input.Store.{Store}
use Rattle.rs_entry.specs.declared.outcome.Mode.TheVariants as mode
use Rattle.rs_region.specs.Reshapings.{merged_into}
use Rattle.rs_region.specs.Verdicts.{verdict}
use Rattle.rs_region.specs.declared.verdict.Verdict.TheVariants as verdicts
use Rattle.rs_store.specs.declared.regions.Made.{Made}
use Rattle.rs_store.specs.Stores.{Applied, own, is_paused}
use Rattle.rs_part.specs.Parts.{Part}
use Rattle.rs_part.specs.Scripts.{Script, IsPart}

-- the region was made
abbrev pub IsMade : Applied → ℕ → Type 0
IsMade g x = (r : Made) × (g.region x ≡ Some r)

-- the entry of region t after index k is an accepted commit of the source's prepare at this index
pub record Commits (script : Script) (t k source commit : ℕ) : Type 0 where
  pub past : 5 ≤ k
  pub part : Part
  pub entry : Entry
  pub carried : List Carried
  pub is_part : IsPart script t k part
  pub line : script.line t (k + 1) ≡ Some entry
  pub body : entry.body ≡ body.Commit source commit carried
  pub accepted : verdict part.state entry ≡ verdicts.Accept

-- region t has applied such a commit
pub record Merger (script : Script) (g : Applied) (source commit t : ℕ) : Type 0 where
  pub k : ℕ
  pub r : Made
  pub here : g.region t ≡ Some r
  pub below : k + 1 ≤ r.applied
  pub commits : Commits script t k source commit

-- a merged region's part at its prepare, when it was Merging and paused
pub record Ended (script : Script) (store : Store) (x : ℕ) (r : Made) (t : ℕ) : Type 0 where
  pub part : Part
  pub is_part : IsPart script x r.applied part
  pub state : r.state ≡ merged_into part.state t
  pub merging : part.state.mode ≡ mode.Merging t r.applied
  pub paused : is_paused (own store x) part.state ≡ true

-- what holds of the merged regions of a store at each step
pub record Settled (script : Script) (store : Store) (g : Applied) : Type 0 where
  -- a merged region rested at the prepare of that merge
  pub ended : (x : ℕ) (r : Made) (t : ℕ) → g.region x ≡ Some r → r.state.mode ≡ mode.Merged t → Ended script store x r t
  -- the source of an applied commit is merged
  pub merged : (t : ℕ) (r : Made) (k q c : ℕ) → g.region t ≡ Some r → k + 1 ≤ r.applied → Commits script t k q c → (n : Made) × (g.region q ≡ Some n) × (n.applied ≡ c) × (n.state.mode ≡ mode.Merged t)
  -- a merged region was merged by a commit that its target has applied
  pub merger : (x : ℕ) (r : Made) (t : ℕ) → g.region x ≡ Some r → r.state.mode ≡ mode.Merged t → Merger script g x r.applied t
  -- no merge is committed twice
  pub once : (t : ℕ) (r : Made) (q c j k : ℕ) → g.region t ≡ Some r → j + 1 ≤ r.applied → k + 1 ≤ r.applied → Commits script t j q c → Commits script t k q c → j ≡ k
  -- the children of an applied split are made
  pub children : (p : ℕ) (r : Made) (k : ℕ) (v : Part) (e : Entry) (side : Side) (ids : List ℕ) (keys : List (List ℕ)) → g.region p ≡ Some r → 5 ≤ k → k + 1 ≤ r.applied → IsPart script p k v → script.line p (k + 1) ≡ Some e
      → e.body ≡ body.Split side ids keys → verdict v.state e ≡ verdicts.Accept → AllByRecursion (IsMade g) ids
