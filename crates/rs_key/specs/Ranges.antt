-- Which keys a range holds, and how ranges are joined and cut.
use Rattle.std.specs.Prelude.{ℕ, suc, List, [], ◌∷◌, Option, Some, None, ◌&&◌, ◌||◌, Bool, true, false, if◌then◌else◌}
use Rattle.std.specs.Ordering.{nat_cmp, is_le}
use Rattle.std.specs.Cmp.Lexicographic.{slice_cmp}
use Rattle.rs_key.specs.Keys.{same_bytes, is_below, is_key}
use Rattle.rs_rows.specs.Lists.{same_options}

-- the two bounds of a range, each of which may be missing
pub record Bounds : Type 0 where
  pub start : Option (List ℕ)
  pub end : Option (List ℕ)

-- the start is below the end if both bounds are there
abbrev pub is_range : Option (List ℕ) → Option (List ℕ) → Bool
is_range None end = true
is_range (Some start) None = true
is_range (Some start) (Some end) = is_below start end

-- the key isn't below the start
abbrev pub is_from : Option (List ℕ) → List ℕ → Bool
is_from None key = true
is_from (Some start) key = is_le (slice_cmp nat_cmp start key)

-- the key is below the end
abbrev pub is_to : Option (List ℕ) → List ℕ → Bool
is_to None key = true
is_to (Some end) key = is_below key end

-- the key is in the range; a range without a start and with the end 00 holds none
abbrev pub holds : Bounds → List ℕ → Bool
holds range key = is_key key && (is_from range.start key && is_to range.end key)

-- the end of one range is there and is the start of the next
abbrev pub meets : Option (List ℕ) → Option (List ℕ) → Bool
meets None start = false
meets (Some end) None = false
meets (Some end) (Some start) = same_bytes end start

-- one of the two ends where the other begins
abbrev pub is_next_to : Bounds → Bounds → Bool
is_next_to a b = meets a.end b.start || meets b.end a.start

-- the start of the left one and the end of the right one
abbrev pub join : Bounds → Bounds → Bounds
join a b = if meets a.end b.start then record { start = a.start; end = b.end } else record { start = b.start; end = a.end }

-- the key is above the start
abbrev pub is_past : Option (List ℕ) → List ℕ → Bool
is_past None key = true
is_past (Some start) key = is_below start key

-- the first key, counted from the place, that isn't above the one before it or isn't below the end
abbrev pub bad_cut_from : ℕ → Option (List ℕ) → Option (List ℕ) → List (List ℕ) → Option ℕ
bad_cut_from place before end [] = None
bad_cut_from place before end (k ∷ ks) =
    if is_past before k && is_to end k then bad_cut_from (suc place) (Some k) end ks else Some place

-- the first of the keys, counted from 1, at which the range can't be cut
abbrev pub first_bad_cut : Bounds → List (List ℕ) → Option ℕ
first_bad_cut r ks = bad_cut_from 1 r.start r.end ks

-- the ranges between the start, the keys and the end, from left to right
abbrev pub cut_from : Option (List ℕ) → Option (List ℕ) → List (List ℕ) → List Bounds
cut_from start end [] = record { start = start; end = end } ∷ []
cut_from start end (k ∷ ks) = record { start = start; end = Some k } ∷ cut_from (Some k) end ks

-- the range cut at the keys: one range more than there are keys
abbrev pub cut : Bounds → List (List ℕ) → List Bounds
cut r ks = cut_from r.start r.end ks

-- the same bounds
abbrev pub same_bounds : Bounds → Bounds → Bool
same_bounds a b = same_options same_bytes a.start b.start && same_options same_bytes a.end b.end
