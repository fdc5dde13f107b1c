-- The forms of fields, each with its fault. A reader takes fields from the front of a line.
use Rattle.std.specs.Prelude.{ℕ, ◌+◌, ◌-◌, ◌*◌, ◌==◌, ◌&&◌, ◌||◌, nat_lt, nat_le, Bool, if◌then◌else◌, List, [], ◌∷◌, length, slice_index, codes, Option, Some, None, Result, Ok, Err}
use Rattle.std.specs.List.{fold}
use Rattle.std.specs.Option.{ok_or}
use Rattle.std.specs.Str.{all_ascii_digits, bytes_eq}
use Rattle.hex.specs.Hex.{decode_of}
use Rattle.hex.specs.declared.error.FromHexError.{FromHexError}
use Rattle.rs_field.specs.declared.fault.TextKind.{TextKind}
use Rattle.rs_field.specs.declared.fault.TextKind.TheVariants.{BadLine, BadNumber, BadKey, Limit}

-- ---- readers

-- the second step, if the first gave a value
infixl 10 ◌>>=◌
-- one reading after another: the second one reads where the first succeeded
abbrev pub ◌>>=◌ : {A B : Type 0} → Result A TextKind → (A → Result B TextKind) → Result B TextKind
(Ok x) >>= f = f x
(Err e) >>= f = Err e

-- what is left of a line, field by field
abbrev pub Fields : Type 0
Fields = List (List ℕ)

-- what a reader takes from the front, and the fields after it
abbrev pub Read : Type 0 → Type 0
Read A = Result (A × Fields) TextKind

-- nothing is wrong where the test holds
abbrev pub guard : Bool → TextKind → Result Unit TextKind
guard b kind = if b then Ok tt else Err kind

-- the next field; a missing one is a bad line
abbrev pub field_at : Fields → Read (List ℕ)
field_at [] = Err BadLine
field_at (f ∷ fs) = Ok (f, fs)

-- no field is left; a surplus one is a bad line
abbrev pub end_at : Fields → Result Unit TextKind
end_at [] = Ok tt
end_at (f ∷ fs) = Err BadLine

-- ---- numbers

-- whether a byte is a decimal digit
abbrev pub is_digit : ℕ → Bool
is_digit c = nat_le 48 c && nat_le c 57

-- the value of decimal digits
abbrev pub value_of_digits : List ℕ → ℕ
value_of_digits digits = fold (λ n c. 10 * n + (c - 48)) 0 digits

-- the value of decimal digits, if it is below 2 ^ 63
unfoldable pub decimal_of : List ℕ → Option ℕ
decimal_of f = if all_ascii_digits f && nat_lt (value_of_digits f) 0x8000_0000_0000_0000 then Some (value_of_digits f) else None

-- nothing, or a zero before other bytes
abbrev pub starts_badly : List ℕ → Bool
starts_badly f = (length f == 0) || (nat_lt 1 (length f) && (slice_index f 0 == 48))

-- decimal digits without a leading zero, of a number below 2 ^ 63
unfoldable pub number_of : List ℕ → Result ℕ TextKind
number_of f = if starts_badly f then Err BadNumber else ok_or (decimal_of f) BadNumber

-- the next field as a number
unfoldable pub number_at : Fields → Read ℕ
number_at fields = do
  f ← field_at fields
  n ← number_of f.0
  Ok (n, f.1)

-- a number of at least 1
unfoldable pub id_of : List ℕ → Result ℕ TextKind
id_of f = do
  n ← number_of f
  if n == 0 then Err BadNumber else Ok n

-- the next field as an id
unfoldable pub id_at : Fields → Read ℕ
id_at fields = do
  f ← field_at fields
  n ← id_of f.0
  Ok (n, f.1)

-- ---- keys, values and bounds

-- the bytes that were spelled: at least one, and at most `most`
abbrev pub sized : ℕ → Result (List ℕ) FromHexError → Result (List ℕ) TextKind
sized most (Err e) = Err BadKey
sized most (Ok bytes) = if length bytes == 0 then Err BadKey else if nat_lt most (length bytes) then Err Limit else Ok bytes

-- hexadecimal digits of either case
unfoldable pub hex_of : ℕ → List ℕ → Result (List ℕ) TextKind
hex_of most f = sized most (decode_of f)

-- the next field as a key
unfoldable pub key_at : Fields → Read (List ℕ)
key_at fields = do
  f ← field_at fields
  k ← hex_of 256 f.0
  Ok (k, f.1)

-- `-` is the empty value
unfoldable pub value_at : Fields → Read (List ℕ)
value_at fields = do
  f ← field_at fields
  v ← (if bytes_eq f.0 (codes "-") then Ok [] else hex_of 4096 f.0)
  Ok (v, f.1)

-- the bound that was read is there
abbrev pub some : Result (List ℕ) TextKind → Result (Option (List ℕ)) TextKind
some (Ok k) = Ok (Some k)
some (Err e) = Err e

-- `-` is no bound
unfoldable pub bound_at : Fields → Read (Option (List ℕ))
bound_at fields = do
  f ← field_at fields
  b ← (if bytes_eq f.0 (codes "-") then Ok None else some (hex_of 256 f.0))
  Ok (b, f.1)
