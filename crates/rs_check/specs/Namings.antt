-- Which splits named which ids, as the code keeps it to find an id that is reused.
use Rattle.std.specs.Prelude.{ℕ, ◌==◌, ◌&&◌, ◌||◌, not, Bool, true, false, List, [], ◌∷◌, ◌++◌, Option, Some, None, if◌then◌else◌}
use Rattle.std.specs.Ordering.{nat_cmp}
use Rattle.std.specs.BTreeMap.{get}
use Rattle.std.specs.List.{list_any}
use Rattle.rs_check.specs.declared.reused_ids.Namers.{Namers}
use Rattle.rs_check.specs.Laws.{is_id}

-- which split named an id first
abbrev pub Namings : Type 0
Namings = ℕ → Option (ℕ × ℕ)

-- the namings that the code keeps
abbrev pub namings : Namers → Namings
namings m id = get nat_cmp m.by_id id

-- no id is named
abbrev pub no_namings : Namings
no_namings id = None

-- the namings with one more: the split at this region and index names the id
abbrev pub with_naming : Namings → ℕ → ℕ → ℕ → Namings
with_naming f id region index x = if id == x then Some (region, index) else f x

-- named by another split than this
abbrev pub is_other : ℕ → ℕ → Option (ℕ × ℕ) → Bool
is_other region index None = false
is_other region index (Some p) = not ((p.0 == region) && (p.1 == index))

-- some split named it
abbrev pub is_there : {X : Type 0} → Option X → Bool
is_there None = false
is_there (Some x) = true

-- the namings after a split that names these ids
abbrev pub with_namings : Namings → ℕ → ℕ → List ℕ → Namings
with_namings f region index [] = f
with_namings f region index (id ∷ ids) = with_namings (with_naming f id region index) region index ids

-- whether the id is reused, by namings in place of lists
abbrev pub is_reused_at : Namings → Namings → ℕ → ℕ → List ℕ → ℕ → Bool
is_reused_at boots names region index before id = is_there (boots id) || (list_any (is_id id) before || is_other region index (names id))

-- the first that is, of these
abbrev pub reused_by : Namings → Namings → ℕ → ℕ → List ℕ → List ℕ → Option ℕ
reused_by boots names region index before [] = None
reused_by boots names region index before (id ∷ ids) =
    if is_reused_at boots names region index before id then Some id else reused_by boots names region index (before ++ id ∷ []) ids
