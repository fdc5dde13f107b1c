-- What holds of all orders in which a store may take its entries.
use Rattle.std.specs.Prelude.{◌≡◌, ◌==◌, ℕ, Bool, true, List, ◌∷◌, Option, Some, None}
use Rattle.std.specs.List.{find}
use Rattle.rs_entry.specs.declared.input.Input.{Input}
use Rattle.rs_entry.specs.declared.input.Store.{Store}
use Rattle.rs_entry.specs.declared.outcome.Item.{Item}
use Rattle.rs_entry.specs.declared.outcome.Mode.TheVariants as mode
use Rattle.rs_entry.specs.declared.outcome.RegionLine.{RegionLine}
use Rattle.rs_entry.specs.declared.outcome.StoreOutcome.{StoreOutcome}
use Rattle.rs_store.specs.declared.fault.StepFault.{StepFault}
use Rattle.rs_store.specs.Stores.{Applied, Went, ids_of, last, least_ready, opening}
use Rattle.rs_part.specs.Counting.{IsAmong}
use Rattle.rs_part.specs.Items.{history_of}
use Rattle.rs_part.specs.Held.{Held, HeldOnce, IsBootKey}
use Rattle.rs_part.specs.Orders.{End, follow}
use Rattle.rs_fold.specs.Ordered.{Broken, Gave, in_order_of}
use Rattle.rs_history.specs.Outcomes.{history_in, is_shown, outcome_of, removed_in, store_outcome}

-- No region is ready at the end of the store's canonical order.
abbrev pub Rests : Store → Type 0
Rests store = (end : Applied) → last store ≡ Went end → least_ready store end ≡ None

-- All orders of a store give one outcome, and every key has one region at each moment.
pub record OrderLaws (store : Store) : Type 0 where
  -- An order that ends with no region ready gives the store's outcome.
  pub same : (order : List ℕ) (outcome : StoreOutcome) → in_order_of store order ≡ Gave outcome → outcome ≡ store_outcome store
  -- No order meets a fault.
  pub whole : (order : List ℕ) (fault : StepFault) → in_order_of store order ≡ Broken fault → ⊥
  -- Some order gives the store's outcome.
  pub some : (order : List ℕ) × (in_order_of store order ≡ Gave (store_outcome store))
  -- No region is ready at the end of the canonical order.
  pub rests : Rests store
  -- After the steps of any order one unmerged region alone holds each key that a bootstrap region held.
  pub held : (order : List ℕ) (reached : Applied) → follow store 1 order (opening store) ≡ End reached → (key : List ℕ) → IsBootKey store key → HeldOnce reached key
  -- No unmerged region holds another key.
  pub alone : (order : List ℕ) (reached : Applied) → follow store 1 order (opening store) ≡ End reached → (key : List ℕ) → Held reached key → IsBootKey store key
  -- A region that ends Normal has applied its whole log.
  pub applied : (line : RegionLine) → IsAmong line (store_outcome store).regions → line.mode ≡ mode.Normal → line.left ≡ 0

-- The items of a key, where there are any and the key is shown.
abbrev pub shown_items : Bool → List Item → Option (List Item)
shown_items true (x ∷ xs) = Some (x ∷ xs)
shown_items _ _ = None

-- What the history of a key in an outcome is.
pub record HistoryLaws (input : Input) : Type 0 where
  -- It has the writes that the store accepted of the key, unless a region removed from the store held the key last.
  pub items : (store : Store) → IsAmong store input.stores → (end : Applied) → last store ≡ Went end → (key : List ℕ)
      → history_in (outcome_of input) store.id key ≡ shown_items (is_shown (removed_in end.region (ids_of store)) key) (history_of end.writes key)
  -- There is none on a store that isn't there.
  pub missing : (id : ℕ) → find (λ s. s.id == id) input.stores ≡ None → (key : List ℕ) → history_in (outcome_of input) id key ≡ None
