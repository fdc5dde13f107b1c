-- Worked cases: the input of 0, which has one round, and one with two rounds.
use Rattle.std.specs.Prelude.{◌≡◌, List, [], ◌∷◌, None, map, refl}
use Rattle.rs_entry.specs.declared.entry.Side.TheVariants as side
use Rattle.rs_entry.specs.declared.entry.Body.TheVariants as body
use Rattle.rs_entry.specs.declared.entry.CarriedBody.TheVariants as carried
use Rattle.rs_entry.specs.declared.entry.Carried.{Carried}
use Rattle.rs_entry.specs.declared.entry.Entry.{Entry}
use Rattle.rs_entry.specs.Entries.{entry_of}
use Rattle.rs_check.specs.Laws.{check, store_law}
use Rattle.rs_gen.specs.Rounds.{byte, cut, carried_at, delete, entry_at, put}
use Rattle.rs_gen.specs.Inputs.{made_of, rounds_of, kept, whole}

abbrev child_of_0 : List Carried
child_of_0 =
    carried_at 6 2 (carried.Write (put 0x00 0x22 ∷ delete 0x00 ∷ []))
    ∷ carried_at 7 2 (carried.Write (put 0x00 0x33 ∷ []))
    ∷ carried_at 8 2 (carried.Prepare 1) ∷ []

abbrev main_of_0 : List Entry
main_of_0 =
    entry_at 6 1 (body.Write (put 0x5b 0xb6 ∷ put 0x11 0x6c ∷ []))
    ∷ entry_at 7 1 (body.Split side.Right (2 ∷ []) ((0x01 ∷ []) ∷ []))
    ∷ entry_at 8 2 (body.Write (put 0x8f 0xe9 ∷ []))
    ∷ entry_at 9 2 (body.Commit 2 8 child_of_0) ∷ []

abbrev log_of_2 : List Entry
log_of_2 =
    entry_at 6 2 (body.Write (put 0x00 0x22 ∷ delete 0x00 ∷ []))
    ∷ entry_at 7 2 (body.Write (put 0x00 0x33 ∷ []))
    ∷ entry_at 8 2 (body.Prepare 1) ∷ []

made_of_0 : made_of 0 ≡ record {
  version = 1;
  stores =
      record { id = 1; regions = whole ∷ []; logs = record { region = 1; entries = main_of_0 } ∷ record { region = 2; entries = log_of_2 } ∷ [] }
      ∷ record { id = 2; regions = whole ∷ []; logs = record { region = 1; entries = main_of_0 } ∷ [] } ∷ [];
}
unfolding byte cut rounds_of kept
made_of_0 = refl

lawful_0 : check (made_of 0) ≡ None
unfolding byte cut rounds_of kept check store_law
lawful_0 = refl

-- ---- two rounds

abbrev child_2 : List Carried
child_2 =
    carried_at 6 2 (carried.Write (put 0x98 0xf3 ∷ delete 0x4e ∷ []))
    ∷ carried_at 7 2 (carried.Write (put 0xa9 0x04 ∷ []))
    ∷ carried_at 8 2 (carried.Prepare 1) ∷ []

abbrev child_3 : List Carried
child_3 =
    carried_at 6 5 (carried.Write (put 0xa3 0xfe ∷ delete 0x59 ∷ []))
    ∷ carried_at 7 5 (carried.Write (put 0xb4 0x0f ∷ []))
    ∷ carried_at 8 5 (carried.Prepare 1) ∷ []

abbrev main_of_two : List Entry
main_of_two =
    entry_at 6 1 (body.Write (put 0x2c 0x87 ∷ put 0xe2 0x3d ∷ []))
    ∷ entry_at 7 1 (body.Split side.Right (2 ∷ []) ((0xd2 ∷ []) ∷ []))
    ∷ entry_at 8 2 (body.Write (put 0xd5 0xba ∷ []))
    ∷ entry_at 9 2 (body.Commit 2 8 child_2)
    ∷ entry_at 10 4 (body.Write (put 0x37 0x92 ∷ put 0xed 0x48 ∷ []))
    ∷ entry_at 11 4 (body.Split side.Right (3 ∷ []) ((0xdd ∷ []) ∷ []))
    ∷ entry_at 12 5 (body.Write (put 0xde 0xc5 ∷ []))
    ∷ entry_at 13 5 (body.Commit 3 8 child_3) ∷ []

-- the second store has the first entry of region 2 and none of region 3
made_of_2001 : made_of 2001 ≡ record {
  version = 1;
  stores =
      record { id = 1; regions = whole ∷ []; logs = record { region = 1; entries = main_of_two } ∷ record { region = 2; entries = map entry_of child_2 } ∷ record { region = 3; entries = map entry_of child_3 } ∷ [] }
      ∷ record { id = 2; regions = whole ∷ []; logs = record { region = 1; entries = main_of_two } ∷ record { region = 2; entries = entry_at 6 2 (body.Write (put 0x98 0xf3 ∷ delete 0x4e ∷ [])) ∷ [] } ∷ [] } ∷ [];
}
unfolding byte cut rounds_of kept
made_of_2001 = refl
