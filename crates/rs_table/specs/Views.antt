-- What contracts see of a store's table.
use Rattle.std.specs.Prelude.{ℕ, Bool, List}
use Rattle.rs_entry.specs.declared.input.Input.{Input}
use Rattle.rs_region.specs.declared.state.RegionState.{RegionState}
use Rattle.rs_table.specs.declared.table.StoreTable.{StoreTable}
use Rattle.rs_table.specs.Cuts.{Cut, Telling}
use Rattle.rs_table.specs.Tellings.{has, numbers}

-- the plan's input
abbrev pub input_of : StoreTable → Input
input_of t = t.growing.cut.plan.now

-- the store's place among the plan's stores, counted from 0
abbrev pub place_of : StoreTable → ℕ
place_of t = t.growing.cut.place

-- what was told of the store
abbrev pub told_of : StoreTable → Telling
told_of t = has t.growing.told

-- the cut whose table it has
abbrev pub cut_of : StoreTable → Cut
cut_of t = numbers t.growing.cut.taken.items

-- the states of the regions that the cut has
abbrev pub rows_of : StoreTable → List RegionState
rows_of t = t.growing.cut.table

-- whether a call has met want of memory
abbrev pub is_spent : StoreTable → Bool
is_spent t = t.spent
