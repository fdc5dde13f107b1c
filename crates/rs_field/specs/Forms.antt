-- How lines are written, and which other lines are read as the same.
use Prim.Native.String.{String}
use Rattle.std.specs.Prelude.{◌≡◌, ℕ, List, [], ◌∷◌, ◌++◌, codes, Option, Some, None, Result, Ok, OnOk}
use Rattle.std.specs.List.{flat_map}
use Rattle.std.specs.Fmt.{decimal}
use Rattle.hex.specs.Hex.{encode_lower, decode_of}
use Rattle.std.specs.declared.vec.Vec.{Vec}
use Rattle.rs_key.specs.Ranges.{Bounds}
use Rattle.rs_rows.specs.declared.no_memory.NoMemory.{NoMemory}
use Rattle.rs_key.specs.declared.epoch.Epoch.{Epoch}
use Rattle.rs_field.specs.Lines.{fields_of}

-- a field: exactly these bytes, or hexadecimal digits of these bytes
pub data Form : Type 0 where
  Exact : List ℕ → Form
  Hex : List ℕ → Form

-- the fields of a line
abbrev pub Forms : Type 0
Forms = List Form

-- ---- fields

-- a word of the format
abbrev pub word : String → Form
word s = Exact (codes s)

-- a number, in decimal digits without a leading zero
abbrev pub number : ℕ → Form
number n = Exact (decimal n)

-- a bound that is missing
abbrev pub dash : Form
dash = word "-"

-- a bound of a range, `-` where it is missing
abbrev pub bound : Option (List ℕ) → Form
bound None = dash
bound (Some k) = Hex k

-- a value, `-` where it is empty
abbrev pub value : List ℕ → Form
value [] = dash
value (b ∷ bs) = Hex (b ∷ bs)

-- START END
abbrev pub bounds : Bounds → Forms
bounds r = bound r.start ∷ bound r.end ∷ []

-- CONF VERSION
abbrev pub epoch : Epoch → Forms
epoch e = number e.conf_ver ∷ number e.version ∷ []

-- ---- how they are written

-- hexadecimal digits are of lower case
abbrev pub field_text : Form → List ℕ
field_text (Exact bytes) = bytes
field_text (Hex bytes) = encode_lower bytes

-- fields behind another, each after one space
abbrev pub more_text : Forms → List ℕ
more_text fs = flat_map (λ f. 32 ∷ field_text f) fs

-- fields with one space between them
abbrev pub fields_text : Forms → List ℕ
fields_text [] = []
fields_text (f ∷ fs) = field_text f ++ more_text fs

-- a line, ended by LF
abbrev pub line_text : Forms → List ℕ
line_text forms = fields_text forms ++ 10 ∷ []

-- lines, one after another
abbrev pub lines_text : List Forms → List ℕ
lines_text lines = flat_map line_text lines

-- the bytes were appended if the call went well
abbrev pub Appends : {A : Type 0} → Result Unit NoMemory → Vec ℕ A → Vec ℕ A → List ℕ → Type 0
Appends result old new bytes = OnOk result (new.items ≡ old.items ++ bytes)

-- ---- what is read as the same

-- hexadecimal digits may be of either case; all else is written in one way
abbrev pub Spells : List ℕ → Form → Type 0
Spells field (Exact bytes) = field ≡ bytes
Spells field (Hex bytes) = decode_of field ≡ Ok bytes

-- field by field
abbrev pub SpellsFields : List (List ℕ) → Forms → Type 0
SpellsFields [] [] = Unit {0}
SpellsFields (f ∷ fs) (g ∷ gs) = Spells f g × SpellsFields fs gs
SpellsFields _ _ = ⊥

-- each part of a text but the last is a line, and nothing stands after the last LF
abbrev pub SpellsLines : List (List ℕ) → List Forms → Type 0
SpellsLines (last ∷ []) [] = last ≡ []
SpellsLines (line ∷ next ∷ more) (forms ∷ lines) = SpellsFields (fields_of line) forms × SpellsLines (next ∷ more) lines
SpellsLines _ _ = ⊥
