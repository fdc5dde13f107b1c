-- When a step changes nothing for other regions.
use Rattle.std.specs.Prelude.{◌≡◌, ℕ, ◌+◌, ◌||◌, not, Bool, true, Some, None}
use Rattle.rs_entry.specs.declared.entry.Entry.{Entry}
use Rattle.rs_entry.specs.declared.input.Store.{Store}
use Rattle.rs_store.specs.declared.regions.Made.{Made}
use Rattle.rs_region.specs.declared.state.RegionState.{RegionState}
use Rattle.rs_region.specs.Verdicts.{verdict}
use Rattle.rs_store.specs.Stores.{ByRegion, Applied, Merge, is_accept, merge_of, next, own, own_next, stands}
use Rattle.rs_store.specs.Runs.{bare, is_quiet, passes}
use Rattle.rs_store.specs.Places.{Places}

-- the places have each merge that a region of this store may stand before, by source and commit
abbrev pub HasMerges : Store → Places → Type 0
HasMerges store awaited = (g : Applied) (x : ℕ) (m : Merge) → stands store g x ≡ Some m → awaited m.source m.commit ≡ None → ⊥

-- the entry changes its own region alone: it is refused, or is no split and no commit
abbrev pub is_quiet_for : RegionState → Entry → Bool
is_quiet_for s e = is_quiet e.body || not (is_accept (verdict s e))

-- the region's next entry is one of its own log and leaves it as it is; no merge awaits the region there, and it won't stand before one
pub record MayPass (store : Store) (awaited : Places) (f : ByRegion) (id : ℕ) : Type 0 where
  pub made : Made
  pub entry : Entry
  pub here : f id ≡ Some made
  pub next : own_next (own store id) made.applied ≡ Some entry
  pub leaves : passes (verdict made.state entry) entry.body ≡ true
  pub unawaited : awaited id (made.applied + 1) ≡ None
  pub lone : merge_of made.state (own_next (own store id) (made.applied + 1)) ≡ None

-- the region's next step changes nothing for others
pub record IsCalm (store : Store) (awaited : Places) (f : ByRegion) (id : ℕ) : Type 0 where
  pub lone : stands store (bare f) id ≡ None
  pub quiet : (r : Made) (e : Entry) → f id ≡ Some r → next store (bare f) id r ≡ Some e → is_quiet_for r.state e ≡ true
  pub unawaited : (r : Made) → f id ≡ Some r → awaited id (r.applied + 1) ≡ None
