-- What contracts see of a publisher and of new views.
use Rattle.std.specs.Prelude.{◌≡◌, ℕ, Some}
use Rattle.rs_entry.specs.declared.input.Input.{Input}
use Rattle.rs_table.specs.Cuts.{Cut}
use Rattle.rs_view.specs.declared.publisher.Publisher.{Publisher}
use Rattle.rs_view.specs.declared.store_cut.StoreCut.{StoreCut}
use Rattle.rs_view.specs.declared.view.View.{View}
use Rattle.rs_view.specs.Cuts.{cut_of, numbers_of}
use Rattle.rs_view.specs.Views.{IfOpen, refused_by, seen, store_of}

-- the plan's input, and the store's place among the plan's stores, counted from 0
abbrev pub published_store : Publisher → Input × ℕ
published_store p = (p.plan.now, p.place)

-- the cut that readers find
abbrev pub published : Publisher → StoreCut
published p = cut_of p.writer.desk.shown.value

-- the cut that the next publication shows them
abbrev pub pending : Publisher → StoreCut
pending p = cut_of p.pending

-- how many reshapings of each address it covers
abbrev pub pending_cut : Publisher → Cut
pending_cut p = numbers_of (pending p)

-- the view is of this store, has refused no entry, and knows this cut where its door is open
abbrev pub IsNewView : Input → ℕ → StoreCut → View → Type 0
IsNewView input place cut v = (store_of v ≡ (input, place)) × (refused_by v ≡ 0) × IfOpen v (seen v ≡ Some cut)
