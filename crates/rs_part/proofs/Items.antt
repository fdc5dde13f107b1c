-- What one list of writes says of each range.
use Rattle.std.proofs.Common.{◌≡◌, ℕ, Bool, true, false, ◌||◌, List, [], ◌∷◌, ◌++◌, refl, ap, ◌∙◌, arith, append-nil, cond, map}
use Rattle.std.proofs.lemmas.List.{map-append}
use Rattle.std.specs.List.{filter}
use Rattle.std.proofs.lemmas.List.Elements.{filter-append}
use Rattle.std.proofs.lemmas.Bool.{both_ways}
use Rattle.rs_key.specs.Keys.{same_bytes}
use Rattle.rs_key.specs.Ranges.{Bounds, holds}
use Rattle.rs_key.proofs.RangeLaws.{same_bytes_is}
use Rattle.rs_store.specs.Stores.{Wrote}
use Rattle.rs_part.specs.Items.{history_of, item_of, items_in, kept_items, of_key}
use Rattle.rs_part.specs.Ranges.{AllIn, Apart, Inside}

-- the history of two lists, one after the other
pub history_append : (xs ys : List Wrote) (key : List ℕ) → history_of (xs ++ ys) key ≡ history_of xs key ++ history_of ys key
history_append xs ys key = ap (map item_of) (filter-append (of_key key) xs ys) ∙ map-append item_of (filter (of_key key) xs) (filter (of_key key) ys)

-- writes in a range say nothing of a key outside
pub no_history : (range : Bounds) (writes : List Wrote) (key : List ℕ) → AllIn range writes → holds range key ≡ false → history_of writes key ≡ []
no_history range [] key all out = refl
no_history range (w ∷ writes) key all out = go (same_bytes key w.key) refl (no_history range writes key all.1 out)
  where
    go : (b : Bool) → same_bytes key w.key ≡ b → history_of writes key ≡ [] → history_of (w ∷ writes) key ≡ []
    go true e rest = absurd (both_ways (holds range key) out (ap (holds range) (same_bytes_is key w.key e) ∙ all.0))
    go false e rest = ap (λ (b : Bool). map item_of (cond b (w ∷ filter (of_key key) writes) (filter (of_key key) writes))) e ∙ rest

-- writes of keys in a range are the range's own
pub items_more : (range : Bounds) (xs ys : List Wrote) → AllIn range ys → (key : List ℕ) → items_in range (xs ++ ys) key ≡ items_in range xs key ++ history_of ys key
items_more range xs ys all key = go (holds range key) refl
  where
    go : (b : Bool) → holds range key ≡ b → items_in range (xs ++ ys) key ≡ items_in range xs key ++ history_of ys key
    go true e = grind (arith, e, history_append xs ys key)
    go false e = grind (arith, e, no_history range ys key all e)

-- and they change nothing elsewhere
pub items_elsewhere : (range other : Bounds) (xs ys : List Wrote) → AllIn range ys → Apart range other → (key : List ℕ) → items_in other (xs ++ ys) key ≡ items_in other xs key
items_elsewhere range other xs ys all apart key = go (holds other key) refl (holds range key) refl
  where
    go : (b : Bool) → holds other key ≡ b → (c : Bool) → holds range key ≡ c → items_in other (xs ++ ys) key ≡ items_in other xs key
    go true e true f = absurd (apart key f e)
    go true e false f = grind (arith, e, f, history_append xs ys key, no_history range ys key all f, append-nil (history_of xs key))
    go false e c f = grind (arith, e)

-- a part of a range has what the range has there
pub items_inside : (part range : Bounds) (writes : List Wrote) → Inside part range → (key : List ℕ) → kept_items part (items_in range writes) key ≡ items_in part writes key
items_inside part range writes inside key = go (holds part key) refl
  where
    go : (b : Bool) → holds part key ≡ b → kept_items part (items_in range writes) key ≡ items_in part writes key
    go true e = grind (arith, e, inside key e)
    go false e = grind (arith, e)

-- two ranges that are joined have what each had
pub items_joined : (a b c : Bounds) (writes : List Wrote) → ((key : List ℕ) → holds c key ≡ (holds a key || holds b key)) → Apart a b
    → (key : List ℕ) → items_in c writes key ≡ items_in a writes key ++ items_in b writes key
items_joined a b c writes both apart key = go (holds a key) refl (holds b key) refl
  where
    go : (x : Bool) → holds a key ≡ x → (y : Bool) → holds b key ≡ y → items_in c writes key ≡ items_in a writes key ++ items_in b writes key
    go true e true f = absurd (apart key e f)
    go true e false f = grind (arith, e, f, both key, append-nil (history_of writes key))
    go false e true f = grind (arith, e, f, both key)
    go false e false f = grind (arith, e, f, both key)
