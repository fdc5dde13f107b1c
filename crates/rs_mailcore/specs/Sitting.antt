-- A desk: a ledger with the machine in its place.
use Rattle.std.specs.Prelude.{◌≡◌, Bool, true, false, List, ◌∷◌, Option, is_some}
use Rattle.rs_mailcore.specs.declared.letter.Letter.{Letter}
use Rattle.rs_mailcore.specs.declared.letter.Place.{Place}
use Rattle.rs_mailcore.specs.declared.letter.Place.TheVariants.{Home, With, Given}
use Rattle.rs_mailcore.specs.Moment.{Moment}
use Rattle.rs_mailcore.specs.Keeping.{IsSound}

-- the machine is at home
abbrev pub is_home : Place → Bool
is_home Home = true
is_home (With i) = false
is_home Given = false

-- the mailbox is sound, and its machine is there exactly where its place says that it is home
abbrev pub IsSeated : {F M : Type 0} → Moment M → Option F → Type 0
IsSeated m machine = IsSound m × (is_home m.place ≡ is_some machine)

module _ {M : Type 0} where
  -- the message is that of the letter at the front, and the rest stays
  abbrev pub Fronts : List (Letter M) → M → List (Letter M) → Type 0
  Fronts before x after = (letter : Letter M) × (before ≡ letter ∷ after) × (letter.message ≡ x)
