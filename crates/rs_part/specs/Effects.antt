-- What one step does to each region.
use Rattle.std.specs.Prelude.{◌≡◌, ℕ, ◌+◌, ◌≤◌, ◌⊎◌, true, List, Some, None}
use Rattle.std.specs.List.{AllByRecursion}
use Rattle.rs_entry.specs.declared.entry.Body.TheVariants as body
use Rattle.rs_entry.specs.declared.entry.Carried.{Carried}
use Rattle.rs_entry.specs.declared.entry.Entry.{Entry}
use Rattle.rs_entry.specs.declared.entry.Side.{Side}
use Rattle.rs_entry.specs.declared.input.Store.{Store}
use Rattle.rs_entry.specs.declared.outcome.Mode.TheVariants as mode
use Rattle.rs_region.specs.Verdicts.{verdict}
use Rattle.rs_region.specs.declared.verdict.Verdict.TheVariants as verdicts
use Rattle.rs_store.specs.declared.regions.Made.{Made}
use Rattle.rs_store.specs.Stores.{Applied, own, next, goes_on, is_live, is_paused, is_unmerged, as_merged}
use Rattle.rs_part.specs.Scripts.{Script}
use Rattle.rs_part.specs.Settled.{IsMade}

-- region x, which was t, is merged into the region that stepped, by this entry
pub record Merges (store : Store) (id : ℕ) (r : Made) (e : Entry) (x : ℕ) (t : Made) (n : Made) : Type 0 where
  pub now : n ≡ as_merged t id
  pub merging : t.state.mode ≡ mode.Merging id t.applied
  pub paused : is_paused (own store x) t.state ≡ true
  pub carried : List Carried
  pub body : e.body ≡ body.Commit x t.applied carried
  pub accepted : verdict r.state e ≡ verdicts.Accept

-- the entry splits region x off
pub record SplitsOff (r : Made) (e : Entry) (x : ℕ) : Type 0 where
  pub side : Side
  pub ids : List ℕ
  pub keys : List (List ℕ)
  pub body : e.body ≡ body.Split side ids keys
  pub accepted : verdict r.state e ≡ verdicts.Accept
  pub among : AllByRecursion (λ d. d ≡ x → ⊥) ids → ⊥

-- a step of region id, which was r, by the entry e
pub record Effect (store : Store) (g : Applied) (id : ℕ) (r : Made) (e : Entry) (h : Applied) : Type 0 where
  pub mine : (n : Made) × (h.region id ≡ Some n) × (n.applied ≡ r.applied + 1) × (is_unmerged n.state.mode ≡ true)
  -- another region stays, or is merged by this step
  pub others : (x : ℕ) (t : Made) → (x ≡ id → ⊥) → g.region x ≡ Some t → (h.region x ≡ Some t) ⊎ ((n : Made) × (h.region x ≡ Some n) × Merges store id r e x t n)
  -- what is new is split off by the entry
  pub new : (x : ℕ) (t : Made) → (x ≡ id → ⊥) → h.region x ≡ Some t → g.region x ≡ None → (t.applied ≡ 5) × (is_live t.state.mode ≡ true) × SplitsOff r e x
  pub merges : (q c : ℕ) (l : List Carried) → e.body ≡ body.Commit q c l → verdict r.state e ≡ verdicts.Accept
      → (n : Made) × (h.region q ≡ Some n) × (n.applied ≡ c) × (n.state.mode ≡ mode.Merged id) × ((t : Made) × (g.region q ≡ Some t) × (t.state.mode ≡ mode.Merging id c))
  pub splits : (side : Side) (ids : List ℕ) (keys : List (List ℕ)) → e.body ≡ body.Split side ids keys → verdict r.state e ≡ verdicts.Accept → AllByRecursion (IsMade h) ids

-- region id stepped, by an entry that the script has
pub record Stepping (script : Script) (store : Store) (g : Applied) (id : ℕ) (h : Applied) : Type 0 where
  pub r : Made
  pub e : Entry
  pub here : g.region id ≡ Some r
  pub live : is_live r.state.mode ≡ true
  pub goes : goes_on (own store id) r.state ≡ true
  pub taken : next store g id r ≡ Some e
  pub told : script.line id (r.applied + 1) ≡ Some e
  pub effect : Effect store g id r e h

-- each region of the first is made in the second, and has come no less far there
abbrev pub Below : Applied → Applied → Type 0
Below g h = (x : ℕ) (s : Made) → g.region x ≡ Some s → (r : Made) × (h.region x ≡ Some r) × (s.applied ≤ r.applied)
