-- A map that is cut into the maps of some ranges.
use Rattle.std.specs.Prelude.{◌≡◌, ℕ, List, [], ◌∷◌, ◌++◌, Option, None}
use Rattle.rs_key.specs.Ranges.{Bounds, bad_cut_from, cut_from}
use Rattle.rs_part.specs.Items.{Items, kept_items}
use Rattle.rs_msg.specs.Maps.{Writes, HasItems}

-- the map has what of the items lies in the range
abbrev pub IsKept : Items → Bounds → Writes → Type 0
IsKept items range map = HasItems map (kept_items range items)

-- the maps have what of the items lies in each of the ranges, in their order
abbrev pub AreKept : Items → List Bounds → List Writes → Type 0
AreKept items [] [] = Unit {0}
AreKept items [] (m ∷ maps) = ⊥
AreKept items (r ∷ ranges) [] = ⊥
AreKept items (r ∷ ranges) (m ∷ maps) = IsKept items r m × AreKept items ranges maps

-- behind the old maps stand those of the ranges into which the keys cut the map's range, whatever that is
pub record AddsCuts (keys : List (List ℕ)) (map : Writes) (old new : List Writes) : Type 0 where
  pub maps : List Writes
  pub added : new ≡ old ++ maps
  pub kept : (items : Items) (place : ℕ) (start end : Option (List ℕ)) → bad_cut_from place start end keys ≡ None
      → IsKept items (record { start = start; end = end }) map → AreKept items (cut_from start end keys) maps
