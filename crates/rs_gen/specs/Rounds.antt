-- One round of a number's input: region 1 splits a region off, both write, and region 1 takes it over again.
use Rattle.std.specs.Prelude.{ℕ, ◌+◌, ◌-◌, ◌*◌, ◌%◌, List, [], ◌∷◌}
use Rattle.rs_entry.specs.declared.entry.Op.{Op}
use Rattle.rs_entry.specs.declared.entry.Op.TheVariants as op
use Rattle.rs_entry.specs.declared.entry.Side.TheVariants as side
use Rattle.rs_entry.specs.declared.entry.Body.{Body}
use Rattle.rs_entry.specs.declared.entry.Body.TheVariants as body
use Rattle.rs_entry.specs.declared.entry.CarriedBody.{CarriedBody}
use Rattle.rs_entry.specs.declared.entry.CarriedBody.TheVariants as carried
use Rattle.rs_entry.specs.declared.entry.Carried.{Carried}
use Rattle.rs_entry.specs.declared.entry.Entry.{Entry}

-- the number's byte at a place
unfoldable pub byte : ℕ → ℕ → ℕ
byte n place = (n % 256 + 91 * place) % 256

-- the bytes of round t, each round with 17 places of its own
abbrev pub byte_in : ℕ → ℕ → ℕ → ℕ
byte_in n t place = byte n (17 * t + place)

-- the region that the round splits off
abbrev pub child : ℕ → ℕ
child t = 2 + t

-- the key of one byte at which it does
unfoldable pub cut : ℕ → ℕ → ℕ
cut n t = 1 + byte_in n t 0 % 255

-- the version of region 1 at the round's begin
abbrev pub version : ℕ → ℕ
version t = 1 + 3 * t

-- ---- operations

-- a key below the cut, and one from it on
abbrev pub low : ℕ → ℕ → ℕ → ℕ
low n t place = byte_in n t place % cut n t

-- a byte from the cut of the round on, made of its byte at the place
abbrev pub high : ℕ → ℕ → ℕ → ℕ
high n t place = cut n t + byte_in n t place % (256 - cut n t)

-- a put of a key and a value of one byte each
abbrev pub put : ℕ → ℕ → Op
put key value = op.Put (key ∷ []) (value ∷ [])

-- the deletion of a key of one byte
abbrev pub delete : ℕ → Op
delete key = op.Delete (key ∷ [])

-- what the new region writes, at first and then
abbrev pub first_write : ℕ → ℕ → List Op
first_write n t = put (low n t 5) (byte_in n t 6) ∷ delete (low n t 7) ∷ []

-- the second write of a round: one key below the cut
abbrev pub second_write : ℕ → ℕ → List Op
second_write n t = put (low n t 8) (byte_in n t 9) ∷ []

-- what region 1 writes before the split, and after it
abbrev pub main_write : ℕ → ℕ → List Op
main_write n t = put (byte_in n t 1) (byte_in n t 2) ∷ put (byte_in n t 3) (byte_in n t 4) ∷ []

-- the last write of a round: one key above the cut
abbrev pub last_write : ℕ → ℕ → List Op
last_write n t = put (high n t 10) (byte_in n t 11) ∷ []

-- ---- entries

-- an entry at the index, proposed at conf_ver 1 and this version
abbrev pub entry_at : ℕ → ℕ → Body → Entry
entry_at index version body = record { index = index; epoch = record { conf_ver = 1; version = version }; body = body }

-- a carried entry at the index, proposed at conf_ver 1 and this version
abbrev pub carried_at : ℕ → ℕ → CarriedBody → Carried
carried_at index version body = record { index = index; epoch = record { conf_ver = 1; version = version }; body = body }

-- the log of the new region
abbrev pub child_entries : ℕ → ℕ → List Carried
child_entries n t =
    carried_at 6 (version t + 1) (carried.Write (first_write n t))
    ∷ carried_at 7 (version t + 1) (carried.Write (second_write n t))
    ∷ carried_at 8 (version t + 1) (carried.Prepare 1) ∷ []

-- what the round adds to the log of region 1
abbrev pub main_entries : ℕ → ℕ → List Entry
main_entries n t =
    entry_at (6 + 4 * t) (version t) (body.Write (main_write n t))
    ∷ entry_at (7 + 4 * t) (version t) (body.Split side.Right (child t ∷ []) ((cut n t ∷ []) ∷ []))
    ∷ entry_at (8 + 4 * t) (version t + 1) (body.Write (last_write n t))
    ∷ entry_at (9 + 4 * t) (version t + 1) (body.Commit (child t) 8 (child_entries n t)) ∷ []
