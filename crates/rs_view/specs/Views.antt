-- What contracts see of views and notes.
use Rattle.std.specs.Prelude.{◌≡◌, ℕ, IfNone, IfSome, Option}
use Rattle.rs_entry.specs.declared.input.Input.{Input}
use Rattle.rs_view.specs.declared.store_cut.StoreCut.{StoreCut}
use Rattle.rs_view.specs.declared.view.Told.{Told}
use Rattle.rs_view.specs.declared.view.View.{View}
use Rattle.rs_view.specs.Doors.{known}

-- the plan's input, and the store's place among the plan's stores, counted from 0
abbrev pub store_of : View → Input × ℕ
store_of v = (v.plan.now, v.place)

-- the greatest cut that the view found or was told of, if its door is open
abbrev pub seen : View → Option StoreCut
seen v = known v.door.reader

-- how many of its entries were refused
abbrev pub refused_by : View → ℕ
refused_by v = v.door.refused

abbrev pub IfOpen : View → Type 0 → Type 0
IfOpen v P = IfSome v.door.reader (λ _. P)

abbrev pub IfShut : View → Type 0 → Type 0
IfShut v P = IfNone v.door.reader P

-- the note is of this store
abbrev pub IsOf : Told → Input × ℕ → Type 0
IsOf t store = (t.plan.now ≡ store.0) × (t.place ≡ store.1)

-- the cut that the note tells of, where it has a place at the table
abbrev pub noted : Told → Option StoreCut
noted t = known t.reader

abbrev pub IfNoted : Told → Type 0 → Type 0
IfNoted t P = IfSome t.reader (λ _. P)
