-- Writes that have the same items have the same histories.
use Rattle.std.proofs.Common.{◌≡◌, ◌∙◌, sym, refl, ap, ℕ, List, [], ◌∷◌, ◌++◌, map}
use Rattle.std.specs.List.{filter, flat_map}
use Rattle.rs_entry.specs.declared.outcome.Item.{Item}
use Rattle.rs_entry.specs.declared.outcome.KeyHistory.{KeyHistory}
use Rattle.rs_store.specs.Stores.{Wrote}
use Rattle.rs_part.specs.Items.{history_of, item_of, of_key}
use Rattle.rs_part.proofs.Items.{history_append}
use Rattle.rs_msg.specs.declared.ending.Ending.{Ending}
use Rattle.rs_history.specs.Histories.{histories_of, keys_of}
use Rattle.rs_history.proofs.HistoryLaws.{has_keys, history_at, maps, rise_keys, some_in, unique}
use Rattle.rs_meta.specs.Readings.{items_of_all, writes_left}

some_mapped : (ws : List Wrote) → some_in (map item_of ws) ≡ some_in ws
some_mapped [] = refl
some_mapped (w ∷ ws) = refl

module _ (xs ys : List Wrote) (same : (key : List ℕ) → history_of ys key ≡ history_of xs key) where
  same_keys : keys_of ys ≡ keys_of xs
  same_keys =
      unique (keys_of ys) (keys_of xs) (rise_keys ys) (rise_keys xs)
      (λ k. has_keys k ys ∙ (sym (some_mapped (filter (of_key k) ys)) ∙ (ap some_in (same k) ∙ (some_mapped (filter (of_key k) xs) ∙ sym (has_keys k xs)))))

  one_history : (k : List ℕ) → history_at ys k ≡ history_at xs k
  one_history k = ap (λ (items : List Item). let h : KeyHistory = record { key = k; items = items } in h) (same k)

  pub histories_by_items : histories_of ys ≡ histories_of xs
  unfolding histories_of
  histories_by_items = ap (map (history_at ys)) same_keys ∙ maps (history_at ys) (history_at xs) one_history (keys_of xs)

-- the items of all writes are those of each ending's, one after another
pub items_of_writes : (es : List Ending) (key : List ℕ) → history_of (flat_map writes_left es) key ≡ items_of_all es key
items_of_writes [] key = refl
items_of_writes (e ∷ es) key = history_append (writes_left e) (flat_map writes_left es) key ∙ ap (λ is. history_of (writes_left e) key ++ is) (items_of_writes es key)
