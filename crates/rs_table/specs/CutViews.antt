-- What contracts see of a cut with its table.
use Rattle.std.specs.Prelude.{ℕ, List}
use Rattle.rs_entry.specs.declared.input.Input.{Input}
use Rattle.rs_table.specs.declared.cut_table.CutTable.{CutTable}
use Rattle.rs_table.specs.Cuts.{Cut}
use Rattle.rs_table.specs.Tellings.{numbers}

-- the plan's input
abbrev pub input_of : CutTable → Input
input_of t = t.plan.now

-- the store's place among the plan's stores, counted from 0
abbrev pub place_of : CutTable → ℕ
place_of t = t.place

-- how many reshapings of each address the cut covers, as a list by address
abbrev pub counts_of : CutTable → List ℕ
counts_of t = t.taken.items

-- and as a cut
abbrev pub cut_of : CutTable → Cut
cut_of t = numbers (counts_of t)
