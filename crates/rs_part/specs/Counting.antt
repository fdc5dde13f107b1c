-- How many entries of a store's logs lie ahead of what it has applied.
use Rattle.std.specs.Prelude.{◌≡◌, ℕ, ◌+◌, ◌⊎◌, ltb, Bool, List, [], ◌∷◌, ◌++◌, map, Some}
use Rattle.std.specs.List.{count_by, flat_map}
use Rattle.rs_entry.specs.declared.entry.Body.{Body}
use Rattle.rs_entry.specs.declared.entry.Body.TheVariants as body
use Rattle.rs_entry.specs.declared.entry.Entry.{Entry}
use Rattle.rs_entry.specs.declared.input.Store.{Store}
use Rattle.rs_store.specs.declared.regions.Made.{Made}
use Rattle.rs_store.specs.Ends.{applied_of}
use Rattle.rs_store.specs.Stores.{Applied, ids_of}

-- x is one of them
abbrev pub IsAmong : {A : Type 0} → A → List A → Type 0
IsAmong x [] = ⊥
IsAmong x (y ∷ ys) = (x ≡ y) ⊎ IsAmong x ys

-- each region that was made is one that the store may have
abbrev pub MadeIn : Store → Applied → Type 0
MadeIn store g = (x : ℕ) (r : Made) → g.region x ≡ Some r → IsAmong x (ids_of store)

-- the place of an entry
pub record Slot : Type 0 where
  pub region : ℕ
  pub index : ℕ

-- the places of the entries that a body carries
abbrev pub carried_slots : Body → List Slot
carried_slots (body.Commit source commit carried) = map (λ c. record { region = source; index = c.index }) carried
carried_slots b = []

-- the places of the entries of a region's log from this index on, with those that they carry
abbrev pub slots_from : ℕ → ℕ → List Entry → List Slot
slots_from region index [] = []
slots_from region index (e ∷ es) = record { region = region; index = index } ∷ (carried_slots e.body ++ slots_from region (index + 1) es)

-- the places of all entries of the store's logs; the first of a log has the index 6
abbrev pub slots_of : Store → List Slot
slots_of store = flat_map (λ log. slots_from log.region 6 log.entries) store.logs

-- the region has not applied the index yet
abbrev pub is_ahead : Applied → Slot → Bool
is_ahead g s = ltb (applied_of (g.region s.region)) s.index

-- how many of them lie ahead
abbrev pub ahead : Store → Applied → ℕ
ahead store g = count_by (is_ahead g) (slots_of store)
