-- What others can tell of a control machine.
use Rattle.std.specs.Prelude.{ℕ, Bool, Option}
use Rattle.rs_entry.specs.declared.input.Input.{Input}
use Rattle.rs_msg.specs.declared.ending.Ending.{Ending}
use Rattle.rs_table.specs.Cuts.{Cut, Telling}
use Rattle.rs_table.specs.Views.{cut_of, told_of}
use Rattle.rs_meta.specs.declared.machine.StoreFsm.{StoreFsm}
use Rattle.rs_meta.specs.Machines.{held_by}

-- the plan's input
abbrev pub input_of : StoreFsm → Input
input_of m = m.plan.now

-- its store's place among the plan's stores, counted from 0
abbrev pub place_of : StoreFsm → ℕ
place_of m = m.place

-- the ending that it holds for an address
abbrev pub held : StoreFsm → ℕ → Option Ending
held m = held_by m.endings

-- the reshapings of its store that it was told
abbrev pub told : StoreFsm → Telling
told m = told_of m.table

-- how many of each address's reshapings its table has
abbrev pub cut : StoreFsm → Cut
cut m = cut_of m.table

-- a call has met want of memory
abbrev pub is_spent : StoreFsm → Bool
is_spent m = m.table.spent
