-- Control machines that are complete, and the outcomes of stores, by their places in the plan.
use Rattle.std.specs.Prelude.{◌≡◌, ℕ, true, List, All, Option, Some, None, get_or, is_some, slice_get}
use Rattle.std.specs.Option.{option_map}
use Rattle.rs_entry.specs.declared.input.Input.{Input}
use Rattle.rs_entry.specs.declared.outcome.StoreOutcome.{StoreOutcome}
use Rattle.rs_meta.specs.declared.machine.StoreFsm.{StoreFsm}
use Rattle.rs_meta.specs.Machines.{IsComplete as HasAll, held_by}
use Rattle.rs_table.specs.Views.{cut_of}
use Rattle.rs_history.specs.Outcomes.{store_outcome}

-- the machine holds the ending of each address of its store, and its table has each of the store's reshapings
abbrev pub IsComplete : StoreFsm → Type 0
IsComplete machine = HasAll machine.plan.now machine.place (held_by machine.endings) (cut_of machine.table)

-- those that are there are the stores' own
abbrev pub AreOutcomes : Input → List (Option StoreOutcome) → Type 0
AreOutcomes input outcomes = (place : ℕ) (outcome : StoreOutcome) → get_or outcomes place None ≡ Some outcome → option_map store_outcome (slice_get input.stores place) ≡ Some outcome

-- all are there
abbrev pub AreThere : List (Option StoreOutcome) → Type 0
AreThere outcomes = All (λ outcome. is_some outcome ≡ true) outcomes
