-- The entry that a region of a store applies at an index.
use Rattle.std.specs.Prelude.{◌≡◌, ℕ, ◌-◌, ◌==◌, ◌⊎◌, List, [], ◌∷◌, Option, Some, None, if◌then◌else◌}
use Rattle.std.specs.List.{find}
use Rattle.rs_entry.specs.declared.entry.Body.{Body}
use Rattle.rs_entry.specs.declared.entry.Body.TheVariants as body
use Rattle.rs_entry.specs.declared.entry.Carried.{Carried}
use Rattle.rs_entry.specs.declared.entry.Entry.{Entry}
use Rattle.rs_entry.specs.declared.input.Log.{Log}
use Rattle.rs_entry.specs.declared.input.Store.{Store}
use Rattle.rs_entry.specs.declared.input.Input.{Input}
use Rattle.rs_entry.specs.Entries.{entry_of}
use Rattle.rs_store.specs.Stores.{first_some, own, own_next, entry_at}
use Rattle.rs_part.specs.Counting.{IsAmong}

-- the entry of the region at the index that the body carries
abbrev pub carried_by : ℕ → ℕ → Body → Option Carried
carried_by region index (body.Commit source commit carried) = if source == region then find (λ c. c.index == index) carried else None
carried_by region index b = None

-- the entry of the region at the index that the first of the entries carries
abbrev pub carried_in : ℕ → ℕ → List Entry → Option Carried
carried_in region index [] = None
carried_in region index (e ∷ es) = first_some (carried_by region index e.body) (carried_in region index es)

-- the entry of the region at the index that the first of the logs carries
abbrev pub carried_at : ℕ → ℕ → List Log → Option Carried
carried_at region index [] = None
carried_at region index (log ∷ logs) = first_some (carried_in region index log.entries) (carried_at region index logs)

-- ---- where entries stand

-- a log of the store is the region's, and has the entry at the index
pub record Owns (store : Store) (region index : ℕ) (e : Entry) : Type 0 where
  pub log : Log
  pub among : IsAmong log store.logs
  pub of_region : log.region ≡ region
  pub at : own_next log.entries (index - 1) ≡ Some e

-- the body is a commit of the region that carries this at the index
abbrev pub CarriesIn : Body → ℕ → ℕ → Carried → Type 0
CarriesIn (body.Commit source commit carried) region index c = (source ≡ region) × IsAmong c carried × (c.index ≡ index)
CarriesIn b region index c = ⊥

-- a log of the store has such a commit
pub record Carries (store : Store) (region index : ℕ) (c : Carried) : Type 0 where
  pub log : Log
  pub by : Entry
  pub among : IsAmong log store.logs
  pub by_among : IsAmong by log.entries
  pub in_body : CarriesIn by.body region index c

-- the store's logs have the entry for the region at the index, its own or a carried one
abbrev pub HasEntry : Store → ℕ → ℕ → Entry → Type 0
HasEntry store region index e = Owns store region index e ⊎ ((c : Carried) × Carries store region index c × (entry_of c ≡ e))

-- ---- the entry at an index

-- the own entry, else the first that a commit of the store's logs carries
abbrev pub entry_in : Store → ℕ → ℕ → Option Entry
entry_in store region index = first_some (own_next (own store region) (index - 1)) (entry_at (carried_at region index store.logs))

-- the region's entry at the index, on the store with this id
abbrev pub line_in : ℕ → ℕ → ℕ → List Store → Option Entry
line_in store region index [] = None
line_in store region index (s ∷ ss) = if s.id == store then entry_in s region index else line_in store region index ss

-- the entry of an input's region, by the ids of store and region, at an index
abbrev pub line_at : Input → ℕ × ℕ → ℕ → Option Entry
line_at input a index = line_in a.0 a.1 index input.stores
