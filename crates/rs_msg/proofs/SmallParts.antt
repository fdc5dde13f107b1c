-- What the regions of the small input are at each index.
use Rattle.std.proofs.Common.{refl, ◌∙◌, sym, ap}
use Rattle.std.specs.Prelude.{◌≡◌, ℕ, Bool, true, false, List, [], ◌∷◌, Option, Some, None, unwrap_or, if◌then◌else◌}
use Rattle.rs_key.specs.Ranges.{Bounds, holds}
use Rattle.rs_entry.specs.declared.outcome.Item.{Item}
use Rattle.rs_entry.specs.declared.outcome.Reply.TheVariants as reply
use Rattle.rs_part.specs.Items.{no_items, items_in}
use Rattle.rs_part.specs.Parts.{at}
use Rattle.rs_msg.specs.Maps.{Writes, HasItems, items_at}
use Rattle.rs_check.specs.Plans.{rows_of, store_rows}
use Rattle.rs_check.specs.Values.{count_of, part_on, replies_to}
use Rattle.rs_msg.specs.Held.{IsHeld, IsEnding}
use Rattle.rs_msg.specs.SmallInput.{small_input, opened, prepared, joined, below_m, all_keys}

abbrev nothing : List Item
nothing = []

none_in : (range : Bounds) (map : Writes) → HasItems map no_items → (key : List ℕ) → Some (items_in range [] key) ≡ Some (items_at map key)
none_in range map empty key = ap Some (go (holds range key) ∙ sym (empty key))
  where
    go : (b : Bool) → (if b then nothing else nothing) ≡ nothing
    go true = refl
    go false = refl

pub two_addresses : count_of small_input ≡ 2
unfolding rows_of store_rows
two_addresses = refl

pub held_at_first : (map : Writes) → HasItems map no_items → IsHeld small_input 0 5 opened map
unfolding part_on at rows_of store_rows
held_at_first map empty = record { state = refl; items = none_in below_m map empty }

pub held_prepared : (map : Writes) → HasItems map no_items → IsHeld small_input 0 6 prepared map
unfolding part_on at rows_of store_rows
held_prepared map empty = record { state = refl; items = none_in below_m map empty }

pub source_ends : IsEnding small_input 0 prepared (record { region = 1; index = 6; reply = reply.Done 2 } ∷ []) None
unfolding part_on at rows_of store_rows replies_to
source_ends = record { state = refl; replies = refl; there = refl; items = λ m none key. absurd cc }

pub target_ends : (map : Writes) → HasItems map no_items → IsEnding small_input 1 joined (record { region = 2; index = 6; reply = reply.Done 3 } ∷ []) (Some map)
unfolding part_on at rows_of store_rows replies_to
target_ends map empty = record { state = refl; replies = refl; there = refl; items = λ m same key. none_in all_keys map empty key ∙ ap (λ (o : Option Writes). Some (items_at (unwrap_or o []) key)) same }
