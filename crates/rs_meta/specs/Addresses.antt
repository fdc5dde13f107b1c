-- The addresses of a store: they follow one another.
use Rattle.std.specs.Prelude.{ℕ, List, [], length, take, Option, Some, None, slice_get}
use Rattle.std.specs.List.{flat_map}
use Rattle.rs_entry.specs.declared.input.Input.{Input}
use Rattle.rs_entry.specs.declared.input.Store.{Store}
use Rattle.rs_check.specs.declared.rows.Row.{Row}
use Rattle.rs_check.specs.Plans.{store_rows}

-- the plan's rows of the store, if there is such a store
abbrev pub rows_on : Option Store → List Row
rows_on None = []
rows_on (Some store) = store_rows store

-- the first address of the store at a place
abbrev pub first_of : Input → ℕ → ℕ
first_of input place = length (flat_map store_rows (take place input.stores))

-- how many addresses it has
abbrev pub count_on : Input → ℕ → ℕ
count_on input place = length (rows_on (slice_get input.stores place))
