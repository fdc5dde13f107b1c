-- Places that are known by a region and an index.
use Rattle.std.specs.Prelude.{ℕ, ◌-◌, ◌==◌, leb, ◌&&◌, List, Option, Some, None, if◌then◌else◌, slice_get}
use Rattle.std.specs.Option.{option_or}
use Rattle.std.specs.Ordering.{nat_cmp}
use Rattle.std.specs.BTreeMap.{get}
use Rattle.rs_store.specs.declared.place_map.PlaceMap.{PlaceMap}
use Rattle.rs_store.specs.declared.region_places.RegionPlaces.{RegionPlaces}

-- ---- in one region

-- the places of one region, by index
abbrev pub PlacesIn : Type 0
PlacesIn = ℕ → Option ℕ

-- no index has a place
abbrev pub nowhere : PlacesIn
nowhere index = None

-- the places of one region with that of one more index
abbrev pub with_index : PlacesIn → ℕ → ℕ → PlacesIn
with_index f index place i = if index == i then Some place else f i

-- the place at the index, of those that follow one another from the first index on
abbrev pub in_run : ℕ → List ℕ → PlacesIn
in_run first run index = if leb first index then slice_get run (index - first) else None

-- the place of the index: in the run of successive indexes, or else among the others
abbrev pub place_in : RegionPlaces → PlacesIn
place_in r index = option_or (in_run r.first r.run.items index) (get nat_cmp r.others index)

-- the places of a region that the map keeps; none if it keeps none
abbrev pub kept_in : Option RegionPlaces → PlacesIn
kept_in None = nowhere
kept_in (Some r) = place_in r

-- ---- in all regions

-- the places of all regions, by region and index
abbrev pub Places : Type 0
Places = ℕ → ℕ → Option ℕ

-- the places that the map knows
abbrev pub known : PlaceMap → Places
known m region = if m.region == region then place_in m.at_hand else kept_in (get nat_cmp m.kept region)

-- no index of any region has a place
abbrev pub no_places : Places
no_places region index = None

-- the places with one more, of an index of a region
abbrev pub with_place : Places → ℕ → ℕ → ℕ → Places
with_place f region index place r i = if (region == r) && (index == i) then Some place else f r i
