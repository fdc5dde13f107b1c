-- What was written in a range, as the list of its writes.
use Rattle.std.specs.Prelude.{◌≡◌, ◌<◌, ℕ, Bool, true, false, not, List, [], ◌∷◌, ◌++◌, length, take, if◌then◌else◌}
use Rattle.std.specs.List.{AllByRecursion, flat_map}
use Rattle.rs_key.specs.Keys.{is_below}
use Rattle.rs_key.specs.Ranges.{Bounds, holds}
use Rattle.rs_store.specs.Stores.{Wrote}
use Rattle.rs_part.specs.Items.{Items, history_of}
use Rattle.rs_msg.specs.declared.part.Part.{Part}

-- the writes, by key ranges from left to right, and those of a key in their order
abbrev pub Writes : Type 0
Writes = List Wrote

-- the items of a key: none where it isn't written
abbrev pub items_at : Writes → Items
items_at map key = history_of map key

-- the map has these items, key by key
abbrev pub HasItems : Writes → Items → Type 0
HasItems map items = (key : List ℕ) → items_at map key ≡ items key

-- the items with the writes after them
abbrev pub with_writes : Items → List Wrote → Items
with_writes items writes key = items key ++ history_of writes key

-- the map has the items, and the first of the writes after them
pub record HasFront (items : Items) (writes : List Wrote) (map : Writes) : Type 0 where
  pub count : ℕ
  pub front : HasItems map (with_writes items (take count writes))

-- the items of the keys below this one
abbrev pub items_below : List ℕ → Items → Items
items_below at items key = if is_below key at then items key else []

-- the items of the keys from this one on
abbrev pub items_from : List ℕ → Items → Items
items_from at items key = if is_below key at then [] else items key

-- the items of both
abbrev pub items_of_both : Items → Items → Items
items_of_both a b key = a key ++ b key

-- it has items of keys below this one alone
abbrev pub LiesBelow : List ℕ → Writes → Type 0
LiesBelow at map = (key : List ℕ) → is_below key at ≡ false → items_at map key ≡ []

-- it has none of those
abbrev pub LiesFrom : List ℕ → Writes → Type 0
LiesFrom at map = (key : List ℕ) → is_below key at ≡ true → items_at map key ≡ []

-- it has items of keys in the range alone
abbrev pub LiesIn : Bounds → Writes → Type 0
LiesIn range map = (key : List ℕ) → holds range key ≡ false → items_at map key ≡ []

-- ---- parts

-- each of the writes is of a key below this one
abbrev pub AllBelow : List ℕ → Writes → Type 0
AllBelow at writes = AllByRecursion (λ w. is_below w.key at ≡ true) writes

-- none of them is
abbrev pub NoneBelow : List ℕ → Writes → Type 0
NoneBelow at writes = AllByRecursion (λ w. is_below w.key at ≡ false) writes

-- all writes, from left to right
abbrev pub written : Writes → List Part → Writes
written first parts = first ++ flat_map (λ p. p.writes) parts

-- each part has writes, of keys from its start on; those before it are of keys below
abbrev pub AreApart : Writes → List Part → Type 0
AreApart first [] = Unit {0}
AreApart first (p ∷ parts) = AllBelow p.start first × NoneBelow p.start p.writes × (0 < length p.writes) × AreApart p.writes parts

-- the parts are those of the writes, and there is a first part unless there is none at all
abbrev pub AreParts : Writes → List Part → Type 0
AreParts first parts = AreApart first parts × ((0 < length parts) → (0 < length first))

-- each start is below those behind it
abbrev pub StartsRise : List Part → Type 0
StartsRise [] = Unit {0}
StartsRise (p ∷ parts) = AllByRecursion (λ r. is_below p.start r.start ≡ true) parts × StartsRise parts

-- the part begins at the key or below it
abbrev pub begins_by : List ℕ → Part → Bool
begins_by key p = not (is_below key p.start)

-- a part with these writes, if there are any
abbrev pub some_part : List ℕ → Writes → List Part
some_part start [] = []
some_part start (w ∷ writes) = record { start = start; writes = w ∷ writes } ∷ []
