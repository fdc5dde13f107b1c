-- Writes that are sorted by key, run by run of one key.
use Rattle.std.specs.Prelude.{List, [], ◌∷◌, if◌then◌else◌}
use Rattle.rs_key.specs.Keys.{same_bytes}
use Rattle.rs_entry.specs.declared.outcome.KeyHistory.{KeyHistory}
use Rattle.rs_store.specs.Stores.{Wrote}
use Rattle.rs_part.specs.Items.{item_of}

-- a write put before the histories of later writes: at the front of its key's where that comes first
abbrev pub add_first : Wrote → List KeyHistory → List KeyHistory
add_first w [] = record { key = w.key; items = item_of w ∷ [] } ∷ []
add_first w (h ∷ hs) =
    if same_bytes w.key h.key then record { key = h.key; items = item_of w ∷ h.items } ∷ hs
    else record { key = w.key; items = item_of w ∷ [] } ∷ h ∷ hs

-- one history for each run of writes of one key
abbrev pub groups : List Wrote → List KeyHistory
groups [] = []
groups (w ∷ ws) = add_first w (groups ws)
