-- What the offset of a first fault says of these bytes, and of others that begin as they do.
use Rattle.std.specs.Prelude.{◌≡◌, ◌⊎◌, ℕ, ◌+◌, ◌<◌, ◌≤◌, List, ◌++◌, length, take, Result, Ok, Err}
use Rattle.rs_entry.specs.declared.input.Input.{Input}
use Rattle.rs_bin.specs.declared.error.BinError.{BinError}
use Rattle.rs_bin.specs.declared.error.BinError.TheVariants as files
use Rattle.rs_bin.specs.Reading.{read_form}
use Rattle.rs_bin.specs.Grammar.{Belongs}

-- the bytes have no fault but that they end, at this offset, or they belong to an input
abbrev pub IsFaultless : ℕ → List ℕ → Type 0
IsFaultless offset bytes = (read_form bytes ≡ Err offset) ⊎ ((x : Input) × Belongs bytes x)

-- the bytes before the fault have no fault but that they end
abbrev pub NoneBefore : List ℕ → Result Input BinError → Type 0
NoneBefore bytes (Err (files.Bad offset)) = (offset ≤ length bytes) × IsFaultless offset (take offset bytes)
NoneBefore bytes _ = Unit {0}

-- the bad field at the offset: it is cut short, or no bytes that begin as these do belong to an input
pub record IsBadField (bytes : List ℕ) (offset : ℕ) : Type 0 where
  -- how many bytes the field has
  pub size : ℕ
  -- fewer bytes, whatever they are, are a field that is cut short
  pub short : (field : List ℕ) → 0 < length field → length field < size → read_form (take offset bytes ++ field) ≡ Err offset
  -- no bytes that begin as these do, through the field, belong to an input
  pub none : offset + size ≤ length bytes → (rest : List ℕ) (x : Input) → Belongs (take (offset + size) bytes ++ rest) x → ⊥

-- no bytes that begin as these do, through the bad field, belong to an input
abbrev pub NoneBelongs : List ℕ → Result Input BinError → Type 0
NoneBelongs bytes (Err (files.Bad offset)) = IsBadField bytes offset
NoneBelongs bytes _ = Unit {0}
