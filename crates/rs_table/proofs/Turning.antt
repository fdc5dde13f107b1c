-- A turn of a region changes its own row alone.
use Rattle.std.proofs.Common.{◌≡◌, ℕ, refl, List, [], ◌∷◌}
use Rattle.rs_region.specs.Actions.{turn_body, turned_on}
use Rattle.rs_region.specs.declared.action.Turn.{Turn}
use Rattle.rs_region.specs.declared.action.Turn.TheVariants as turn
use Rattle.rs_region.specs.declared.state.RegionState.{RegionState}
use Rattle.rs_table.specs.Changes.{changes}

pub turn_changes : (store index : ℕ) (rows : List RegionState) (s : RegionState) (t : Turn) → changes store index rows s (turn_body t) ≡ turned_on store index t s ∷ []
turn_changes store index rows s (turn.Prepare target) = refl
turn_changes store index rows s (turn.Rollback commit) = refl
turn_changes store index rows s (turn.Conf c) = refl
