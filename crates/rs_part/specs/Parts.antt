-- A region's part: its state, and what was written in its range.
use Rattle.std.specs.Prelude.{ℕ, zero, suc, ◌==◌, Option, Some, None, if◌then◌else◌}
use Rattle.rs_entry.specs.declared.input.Store.{Store}
use Rattle.rs_entry.specs.declared.outcome.Mode.{Mode}
use Rattle.rs_entry.specs.declared.outcome.Mode.TheVariants as mode
use Rattle.rs_region.specs.declared.state.RegionState.{RegionState}
use Rattle.rs_store.specs.declared.regions.Made.{Made}
use Rattle.rs_store.specs.Stores.{Applied, Stepped, Went, Broke, opening, then_advance, entries_in, first_some}
use Rattle.rs_part.specs.Items.{Items, items_in}

-- a region's part: its state, and by key the items of the history that it holds
pub record Part : Type 0 where
  pub state : RegionState
  pub items : Items

-- the mode before a store removed its own peer
abbrev pub mode_before : Mode → Mode
mode_before mode.Removed = mode.Normal
mode_before m = m

-- the state without the mark that the store's own peer was removed: all stores have the same
abbrev pub unmarked : RegionState → RegionState
unmarked s = record { region = s.region; epoch = s.epoch; range = s.range; peers = s.peers; mode = mode_before s.mode }

-- the part of a region that was made: its state and the writes in its range
abbrev pub part_of : Applied → Made → Part
part_of g r = record { state = unmarked r.state; items = items_in r.state.range g.writes }

-- the part, if the region has applied exactly the entries up to the index
abbrev pub part_if : ℕ → Applied → Option Made → Option Part
part_if index g None = None
part_if index g (Some r) = if r.applied == index then Some (part_of g r) else None

-- the part of the region after this step, if it has applied exactly the entries up to the index
abbrev pub part_when : ℕ → ℕ → Stepped → Option Part
part_when id index (Broke fault) = None
part_when id index (Went g) = part_if index g (g.region id)

-- a region's part at the first of the next n steps at which it has applied the index
abbrev pub first_part : Store → ℕ → ℕ → ℕ → Stepped → Option Part
first_part store id index zero s = part_when id index s
first_part store id index (suc n) s = first_some (part_when id index s) (first_part store id index n (then_advance store s))

-- a region's part right after it has applied the index in the canonical order; for 5, when it was made.
-- So at the last index of a region that is merged its mode is Merging, and of one that is removed Normal
unfoldable pub at : Store → ℕ → ℕ → Option Part
at store id index = first_part store id index (entries_in store) (Went (opening store))
