-- Cuts of a store, and how one contains another.
use Rattle.std.specs.Prelude.{◌≡◌, ℕ, ◌+◌, List, Option, Some, None, replicate, set}
use mathlib.Core.Option.{some}
use lib.ListN.{get_elem?}
use Rattle.rs_entry.specs.declared.input.Input.{Input}
use Rattle.rs_check.specs.Values.{count_of}
use Rattle.rs_table.specs.declared.cut_table.CutTable.{CutTable}
use Rattle.rs_table.specs.CutViews.{counts_of, input_of, place_of}
use Rattle.rs_table.specs.Cuts.{Cut, IsIn}
use Rattle.rs_table.specs.Tellings.{numbers}
use Rattle.rs_view.specs.declared.step.Step.{Step}
use Rattle.rs_view.specs.declared.store_cut.StoreCut.{StoreCut}

-- the cut that a table is of
abbrev pub cut_of : CutTable → StoreCut
cut_of t = record { input = input_of t; place = place_of t; counts = counts_of t }

-- how many reshapings of each address it covers
abbrev pub numbers_of : StoreCut → Cut
numbers_of c = numbers c.counts

-- the store's cut that covers nothing
abbrev pub empty_cut : Input → ℕ → StoreCut
empty_cut input place = record { input = input; place = place; counts = replicate (count_of input) 0 }

-- with the address's next reshaping
abbrev pub stepped : StoreCut → Step → StoreCut
stepped c s = record c { counts = set c.counts s.address (numbers c.counts s.address + 1) }

-- the second is of the same store, and contains the first
abbrev pub Within : StoreCut → StoreCut → Type 0
Within c d = (d.input ≡ c.input) × (d.place ≡ c.place) × IsIn (numbers_of c) (numbers_of d)

-- who knows a cut knows each cut that it contains
abbrev pub Knows : Option StoreCut → StoreCut → Type 0
Knows None c = ⊥
Knows (Some d) c = Within c d

-- the cut contains all that is known
abbrev pub Contains : StoreCut → Option StoreCut → Type 0
Contains c None = Unit {0}
Contains c (Some d) = Within d c

-- the cut contains what each of these knows
abbrev pub Keeps : StoreCut → List (Option StoreCut) → Type 0
Keeps c views = (seat : ℕ) (v : Option StoreCut) → get_elem? views seat ≡ some v → Contains c v

-- all that was known is known
abbrev pub Remembers : Option StoreCut → Option StoreCut → Type 0
Remembers now before = (c : StoreCut) → Knows before c → Knows now c
