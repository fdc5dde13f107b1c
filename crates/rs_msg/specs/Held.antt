-- Values that are what a plan says of a region at an index.
use Rattle.std.specs.Prelude.{◌≡◌, ℕ, ◌-◌, Bool, true, false, List, Option, Some}
use Rattle.std.specs.Option.{option_map, is_some}
use Rattle.rs_entry.specs.declared.input.Input.{Input}
use Rattle.rs_entry.specs.declared.outcome.Item.{Item}
use Rattle.rs_entry.specs.declared.outcome.Mode.{Mode}
use Rattle.rs_entry.specs.declared.outcome.Mode.TheVariants as mode
use Rattle.rs_entry.specs.declared.outcome.ReplyLine.{ReplyLine}
use Rattle.rs_region.specs.declared.state.RegionState.{RegionState}
use Rattle.rs_part.specs.Parts.{Part}
use Rattle.rs_msg.specs.Maps.{Writes, items_at}
use Rattle.rs_check.specs.Plans.{stop_of, ends_of}
use Rattle.rs_check.specs.Values.{part_at, replies_to}

-- the state of a part that is there
abbrev pub state_in : Option Part → Option RegionState
state_in part = option_map (λ v. v.state) part

-- its items of a key
abbrev pub items_in : Option Part → List ℕ → Option (List Item)
items_in part key = option_map (λ v. v.items key) part

-- the part is there, with this state and these items
pub record IsPartOf (part : Option Part) (s : RegionState) (map : Writes) : Type 0 where
  pub state : state_in part ≡ Some s
  pub items : (key : List ℕ) → items_in part key ≡ Some (items_at map key)

-- the state and the map of an address at an index
abbrev pub IsHeld : Input → ℕ → ℕ → RegionState → Writes → Type 0
IsHeld input a index s map = IsPartOf (part_at input a index) s map

-- a region that is merged or removed leaves no map
abbrev pub leaves_map : Mode → Bool
leaves_map (mode.Merged target) = false
leaves_map mode.Removed = false
leaves_map m = true

-- what an address leaves at its stop
pub record IsEnding (input : Input) (a : ℕ) (s : RegionState) (lines : List ReplyLine) (map : Option Writes) : Type 0 where
  pub state : state_in (part_at input a (stop_of input a)) ≡ Some s
  pub replies : lines ≡ replies_to input a (stop_of input a - 5)
  pub there : is_some map ≡ leaves_map (ends_of input a)
  pub items : (m : Writes) → map ≡ Some m → (key : List ℕ) → items_in (part_at input a (stop_of input a)) key ≡ Some (items_at m key)
