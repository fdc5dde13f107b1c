-- What accepted entries make of regions.
use Rattle.std.specs.Prelude.{ℕ, ◌==◌, not, nat_lt, List, [], ◌∷◌, ◌++◌, map, filter, length}
use Rattle.std.specs.List.{zip}
use Rattle.rs_key.specs.Ranges.{Bounds, cut, join}
use Rattle.rs_key.specs.Epochs.{after_split, after_prepare, after_commit, after_rollback, after_conf}
use Rattle.rs_key.specs.declared.epoch.Epoch.{Epoch}
use Rattle.rs_entry.specs.declared.entry.Side.{Side}
use Rattle.rs_entry.specs.declared.entry.Side.TheVariants as side
use Rattle.rs_entry.specs.declared.entry.Change.{Change}
use Rattle.rs_entry.specs.declared.entry.Change.TheVariants as change
use Rattle.rs_entry.specs.declared.outcome.Mode.TheVariants as mode
use Rattle.rs_region.specs.declared.state.RegionState.{RegionState}

-- a region from the start
abbrev pub boot : ℕ → Bounds → List ℕ → RegionState
boot region range peers =
    record { region = region; epoch = record { conf_ver = 1; version = 1 }; range = range; peers = peers; mode = mode.Normal }

-- ---- splits

-- the first of the ranges, or the given one if there are none
abbrev pub first_of : Bounds → List Bounds → Bounds
first_of whole [] = whole
first_of whole (r ∷ rs) = r

-- the last of the ranges, or the given one if there are none
abbrev pub last_of : Bounds → List Bounds → Bounds
last_of whole [] = whole
last_of whole (r ∷ rs) = last_of r rs

-- the ranges after the first
abbrev pub but_first : List Bounds → List Bounds
but_first [] = []
but_first (r ∷ rs) = rs

-- the range that the split region keeps, of those from left to right
abbrev pub kept_range : Side → Bounds → List Bounds → Bounds
kept_range side.Right whole parts = last_of whole parts
kept_range side.Left whole parts = first_of whole parts

-- those that the new ids take in their order, of as many as there are ids
abbrev pub new_ranges : Side → List Bounds → List Bounds
new_ranges side.Right parts = parts
new_ranges side.Left parts = but_first parts

-- the new ids with their ranges
abbrev pub shares : Side → List ℕ → List Bounds → List (ℕ × Bounds)
shares side ids parts = zip ids (new_ranges side parts)

-- what the region keeps
abbrev pub split_kept : RegionState → Side → List (List ℕ) → RegionState
split_kept s side keys =
    record { region = s.region; epoch = after_split s.epoch (length keys); range = kept_range side s.range (cut s.range keys); peers = s.peers; mode = mode.Normal }

-- a region that a split makes, with its share of ids and ranges
abbrev pub new_region : Epoch → List ℕ → ℕ × Bounds → RegionState
new_region epoch peers share = record { region = share.0; epoch = epoch; range = share.1; peers = peers; mode = mode.Normal }

-- the new regions in the order of the ids, each with the region's new epoch and its peers
abbrev pub split_new : RegionState → Side → List ℕ → List (List ℕ) → List RegionState
split_new s side ids keys = map (new_region (after_split s.epoch (length keys)) s.peers) (shares side ids (cut s.range keys))

-- ---- merges

-- the source after the prepare at the index
abbrev pub prepared : RegionState → ℕ → ℕ → RegionState
prepared s target index =
    record { region = s.region; epoch = after_prepare s.epoch; range = s.range; peers = s.peers; mode = mode.Merging target index }

-- the source after its merge was rolled back
abbrev pub rolled_back : RegionState → RegionState
rolled_back s = record { region = s.region; epoch = after_rollback s.epoch; range = s.range; peers = s.peers; mode = mode.Normal }

-- the target, with the range of both
abbrev pub committed : RegionState → RegionState → RegionState
committed s source =
    record { region = s.region; epoch = after_commit s.epoch source.epoch; range = join s.range source.range; peers = s.peers; mode = mode.Normal }

-- the source, which keeps its last epoch and range
abbrev pub merged_into : RegionState → ℕ → RegionState
merged_into s target = record { region = s.region; epoch = s.epoch; range = s.range; peers = s.peers; mode = mode.Merged target }

-- ---- changes of peers

-- the list with the peer at its place
abbrev pub with_peer : List ℕ → ℕ → List ℕ
with_peer peers peer = filter (λ p. nat_lt p peer) peers ++ (peer ∷ []) ++ filter (λ p. nat_lt peer p) peers

-- the list without the peer
abbrev pub without_peer : List ℕ → ℕ → List ℕ
without_peer peers peer = filter (λ p. not (p == peer)) peers

-- the peers after a conf change
abbrev pub changed_peers : List ℕ → Change → List ℕ
changed_peers peers (change.Add peer) = with_peer peers peer
changed_peers peers (change.Remove peer) = without_peer peers peer

-- the region after a conf change
abbrev pub reconfigured : RegionState → Change → RegionState
reconfigured s c = record { region = s.region; epoch = after_conf s.epoch; range = s.range; peers = changed_peers s.peers c; mode = mode.Normal }

-- a region whose peer on this store was removed
abbrev pub removed : RegionState → RegionState
removed s = record { region = s.region; epoch = s.epoch; range = s.range; peers = s.peers; mode = mode.Removed }
