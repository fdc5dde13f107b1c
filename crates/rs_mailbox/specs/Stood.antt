-- What a look tells of the whole table: at its step the rule held of the words, the slot at home and the views of all hands, and the state word was the one found.
use Rattle.std.specs.Prelude.{◌≡◌, ℕ, Option, slice_index}
use mathlib.Core.Option.{some}
use lib.ListN.{get_elem?}
use Rattle.atomic_table.specs.Table.{State, Me}
use Rattle.rs_mailbox.specs.declared.view.View.{View}
use Rattle.rs_mailbox.specs.declared.stored.Stored.{Stored}
use Rattle.rs_mailbox.specs.Order.{IsOrderly}
use Rattle.rs_mailbox.specs.Steps.{looked}

module _ {T N : Type 0} (name_of : T → N) (count_of : T → ℕ) where
  -- at the step the cell was in some lawful state, and its word was the one found
  abbrev pub Stood : Me (Option (Stored T)) (View N) → ℕ → Type 0
  Stood m r = (s : State (Option (Stored T)) (View N)) × (key : T) × (i : ℕ) × (name_of key ≡ m.0.name) × IsOrderly name_of count_of key s × (get_elem? s.views i ≡ some m.0) × (slice_index s.words 0 ≡ r)

  -- a look at the word of a cell that was in some lawful state
  abbrev pub looked_at : Me (Option (Stored T)) (View N) → ℕ → Me (Option (Stored T)) (View N) → Type 0
  looked_at m r n = looked m r n × Stood m r
