-- What was written of each key.
use Rattle.std.specs.Prelude.{ℕ, Bool, List, [], map, if◌then◌else◌}
use Rattle.std.specs.List.{filter}
use Rattle.rs_key.specs.Keys.{same_bytes}
use Rattle.rs_key.specs.Ranges.{Bounds, holds}
use Rattle.rs_entry.specs.declared.outcome.Item.{Item}
use Rattle.rs_store.specs.Stores.{Wrote}

-- what the history of its key has of a write
abbrev pub item_of : Wrote → Item
item_of w = record { region = w.region; index = w.index; value = w.value }

-- the write is of this key
abbrev pub of_key : List ℕ → Wrote → Bool
of_key key w = same_bytes key w.key

-- the writes of a key in their order
abbrev pub history_of : List Wrote → List ℕ → List Item
history_of writes key = map item_of (filter (of_key key) writes)

-- what was written, by key
abbrev pub Items : Type 0
Items = List ℕ → List Item

-- nothing was written
abbrev pub no_items : Items
no_items key = []

-- what of it was written in the range
abbrev pub kept_items : Bounds → Items → Items
kept_items range items key = if holds range key then items key else []

-- what the writes have in the range
abbrev pub items_in : Bounds → List Wrote → Items
items_in range writes key = if holds range key then history_of writes key else []
