-- What a door knows, and its count.
use Rattle.std.specs.Prelude.{◌≡◌, ◌<◌, ◌⊎◌, ℕ, Option, Some, None}
use Rattle.left_right.specs.Sides.{view}
use Rattle.left_right.specs.declared.reader.Reader.{Reader}
use Rattle.rs_entry.specs.declared.input.Input.{Input}
use Rattle.rs_view.specs.declared.store_cut.StoreCut.{StoreCut}

-- of which plan the known cut is, and of which store
abbrev pub input_known : Option StoreCut → Option Input
input_known None = None
input_known (Some c) = Some c.input

abbrev pub place_known : Option StoreCut → Option ℕ
place_known None = None
place_known (Some c) = Some c.place

module _ {T P A : Type 0} where
  -- the greatest cut that was seen or told; none where the door is shut
  abbrev pub known : Option (Reader T (Option StoreCut) P A) → Option StoreCut
  known None = None
  known (Some r) = view r.place

  -- an open door knows a cut of some plan and store
  abbrev pub input_behind : Option (Reader T (Option StoreCut) P A) → Input → Option Input
  input_behind None input = Some input
  input_behind (Some r) input = input_known (view r.place)

  abbrev pub place_behind : Option (Reader T (Option StoreCut) P A) → ℕ → Option ℕ
  place_behind None place = Some place
  place_behind (Some r) place = place_known (view r.place)

-- a count rose, or stands at its last value
abbrev pub Rose : ℕ → ℕ → Type 0
Rose before after = (before < after) ⊎ (after ≡ 18446744073709551615)
