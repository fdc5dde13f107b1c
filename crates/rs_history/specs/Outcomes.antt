-- What comes of a plan: the end of each store's canonical order.
use Rattle.std.specs.Prelude.{ℕ, ◌-◌, ◌==◌, ltb, not, Bool, true, false, List, [], ◌∷◌, map, filter, length, drop, Option, Some, None, option_map, if◌then◌else◌}
use Rattle.std.specs.List.{filter_map, find, list_any}
use Rattle.rs_key.specs.Keys.{same_bytes}
use Rattle.rs_key.specs.Ranges.{Bounds, holds}
use Rattle.rs_entry.specs.declared.entry.Entry.{Entry}
use Rattle.rs_entry.specs.declared.input.Input.{Input}
use Rattle.rs_entry.specs.declared.input.Store.{Store}
use Rattle.rs_entry.specs.declared.outcome.Item.{Item}
use Rattle.rs_entry.specs.declared.outcome.KeyHistory.{KeyHistory}
use Rattle.rs_entry.specs.declared.outcome.Mode.{Mode}
use Rattle.rs_entry.specs.declared.outcome.Mode.TheVariants as mode
use Rattle.rs_entry.specs.declared.outcome.Outcome.{Outcome}
use Rattle.rs_entry.specs.declared.outcome.RegionLine.{RegionLine}
use Rattle.rs_entry.specs.declared.outcome.ReplyLine.{ReplyLine}
use Rattle.rs_entry.specs.declared.outcome.StoreOutcome.{StoreOutcome}
use Rattle.rs_store.specs.declared.regions.Made.{Made}
use Rattle.rs_store.specs.Stores.{ByRegion, Applied, Stepped, Went, Broke, Wrote, Replied, ids_of, own, last}
use Rattle.rs_history.specs.Histories.{histories_of, pairs_of}

-- ---- regions

-- how many entries of a region's own log lie past the applied index; the first has the index 6
abbrev pub left_of : List Entry → ℕ → ℕ
left_of log applied = length (drop (applied - 5) log)

-- the line of a region, where it was made
abbrev pub region_line : Store → ℕ → Option Made → Option RegionLine
region_line store id None = None
region_line store id (Some r) = Some (record {
  region = id;
  epoch = r.state.epoch;
  range = r.state.range;
  mode = r.state.mode;
  applied = r.applied;
  left = left_of (own store id) r.applied;
  peers = r.state.peers;
})

-- the lines of the regions with these ids that were made
abbrev pub lines_in : Store → ByRegion → List ℕ → List RegionLine
lines_in store f ids = filter_map (λ id. region_line store id (f id)) ids

-- ---- replies

-- the line of a reply in the outcome
abbrev pub reply_line : Replied → ReplyLine
reply_line y = record { region = y.region; index = y.index; reply = y.reply }

-- a reply put before the later ones of its own region and of greater ones
abbrev pub put_reply : ReplyLine → List ReplyLine → List ReplyLine
put_reply y [] = y ∷ []
put_reply y (z ∷ zs) = if ltb z.region y.region then z ∷ put_reply y zs else y ∷ z ∷ zs

-- the replies by region, and those of a region in their order
abbrev pub by_region : List ReplyLine → List ReplyLine
by_region [] = []
by_region (y ∷ ys) = put_reply y (by_region ys)

-- ---- keys that a removed region held

-- the mode is that of a region whose peer on the store was removed
abbrev pub is_removed : Mode → Bool
is_removed mode.Removed = true
is_removed m = false

-- the last range of a region that was made and removed
abbrev pub removed_range : Option Made → Option Bounds
removed_range None = None
removed_range (Some r) = if is_removed r.state.mode then Some r.state.range else None

-- the last ranges of the regions with these ids that were removed
abbrev pub removed_in : ByRegion → List ℕ → List Bounds
removed_in f ids = filter_map (λ id. removed_range (f id)) ids

-- the key lies in none of the ranges
abbrev pub is_shown : List Bounds → List ℕ → Bool
is_shown removed key = not (list_any (λ range. holds range key) removed)

-- the writes whose keys lie in no removed region's range
abbrev pub shown : List Bounds → List Wrote → List Wrote
shown removed writes = filter (λ w. is_shown removed w.key) writes

-- ---- outcomes

-- the outcome of a store with these regions, replies and histories
abbrev pub outcome_with : ℕ → List RegionLine → List ReplyLine → List KeyHistory → StoreOutcome
outcome_with id regions replies histories = record {
  id = id;
  regions = regions;
  replies = by_region replies;
  pairs = pairs_of histories;
  histories = histories;
}

-- what comes of a store whose order ends so
abbrev pub outcome_at : Store → Applied → StoreOutcome
outcome_at store g =
    outcome_with store.id (lines_in store g.region (ids_of store)) (map reply_line g.replies) (histories_of (shown (removed_in g.region (ids_of store)) g.writes))

-- the outcome of a store's order; it is empty if the order ends with a fault, as none of a plan does
abbrev pub outcome_by : Store → Stepped → StoreOutcome
outcome_by store (Went g) = outcome_at store g
outcome_by store (Broke fault) = outcome_with store.id [] [] []

-- what comes of a store at the end of its canonical order
unfoldable pub store_outcome : Store → StoreOutcome
store_outcome store = outcome_by store (last store)

-- what comes of all stores
unfoldable pub outcome_of : Input → Outcome
outcome_of input = record { stores = map store_outcome input.stores }

-- ---- one history

-- the items of the key's history in the store, if both exist
abbrev pub history_at : Option StoreOutcome → List ℕ → Option (List Item)
history_at None key = None
history_at (Some s) key = option_map (λ (h : KeyHistory). h.items) (find (λ h. same_bytes h.key key) s.histories)

-- the items of a key on a store
abbrev pub history_in : Outcome → ℕ → List ℕ → Option (List Item)
history_in outcome store key = history_at (find (λ s. s.id == store) outcome.stores) key
