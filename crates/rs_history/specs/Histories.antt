-- The history of each key, and its last value.
use Rattle.std.specs.Prelude.{ℕ, ◌-◌, List, [], ◌∷◌, map, length, slice_get, Option, Some, None, option_and_then, option_to_list}
use Rattle.std.specs.List.{flat_map}
use Rattle.std.specs.Ordering.{nat_cmp}
use Rattle.std.specs.Cmp.Lexicographic.{slice_cmp}
use Rattle.std.specs.declared.cmp.Ordering.{Ordering}
use Rattle.std.specs.declared.cmp.Ordering.TheVariants.{Less, Equal, Greater}
use Rattle.rs_entry.specs.declared.outcome.Item.{Item}
use Rattle.rs_entry.specs.declared.outcome.KeyHistory.{KeyHistory}
use Rattle.rs_entry.specs.declared.outcome.Pair.{Pair}
use Rattle.rs_store.specs.Stores.{Wrote}
use Rattle.rs_part.specs.Items.{history_of}

-- a key put before, at or behind a rising key
abbrev pub put_at : Ordering → List ℕ → List ℕ → List (List ℕ) → List (List ℕ) → List (List ℕ)
put_at Less k x xs behind = k ∷ x ∷ xs
put_at Equal k x xs behind = x ∷ xs
put_at Greater k x xs behind = x ∷ behind

-- a key put into rising keys, each of which stands once
abbrev pub insert_key : List ℕ → List (List ℕ) → List (List ℕ)
insert_key k [] = k ∷ []
insert_key k (x ∷ xs) = put_at (slice_cmp nat_cmp k x) k x xs (insert_key k xs)

-- the keys that are written, rising, each once
abbrev pub keys_of : List Wrote → List (List ℕ)
keys_of [] = []
keys_of (w ∷ ws) = insert_key w.key (keys_of ws)

-- the history of each key that is written, by key
unfoldable pub histories_of : List Wrote → List KeyHistory
histories_of writes = map (λ k. record { key = k; items = history_of writes k }) (keys_of writes)

-- the value of the last write, none where it is a deletion or there is none
abbrev pub last_value : List Item → Option (List ℕ)
last_value items = option_and_then (λ (item : Item). item.value) (slice_get items (length items - 1))

-- the key with its last value, where that isn't a deletion
abbrev pub pair_with : List ℕ → Option (List ℕ) → Option Pair
pair_with key None = None
pair_with key (Some value) = Some (record { key = key; value = value })

-- the key's pair, if its last item is a put
abbrev pub pair_of : KeyHistory → Option Pair
pair_of h = pair_with h.key (last_value h.items)

-- the keys that have a value at the end, by key
abbrev pub pairs_of : List KeyHistory → List Pair
pairs_of histories = flat_map (λ h. option_to_list (pair_of h)) histories
