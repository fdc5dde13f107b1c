-- Reading a whole text: its input, or its first fault with its line.
use Rattle.std.specs.Prelude.{◌≡◌, ℕ, ◌+◌, ◌==◌, if◌then◌else◌, List, [], ◌∷◌, length, codes, Option, Some, None, Result, Ok, Err}
use Rattle.std.specs.Str.{bytes_eq}
use Rattle.rs_entry.specs.declared.input.Input.{Input}
use Rattle.rs_field.specs.declared.fault.LineError.{LineError}
use Rattle.rs_field.specs.declared.fault.LineError.TheVariants as errors
use Rattle.rs_field.specs.declared.fault.TextKind.{TextKind}
use Rattle.rs_field.specs.declared.fault.TextKind.TheVariants.{BadHeader, BadLine, NoEnd}
use Rattle.rs_field.specs.Lines.{parts_of, fields_of}
use Rattle.rs_field.specs.Fields.{Fields}
use Rattle.rs_text.specs.declared.error.TextError.{TextError}
use Rattle.rs_text.specs.declared.error.TextError.TheVariants as texts
use Rattle.rs_text.specs.declared.progress.Progress.{Progress}
use Rattle.rs_text.specs.Steps.{start, close_log, close_store, step}

-- the line, counted from 1, and what is wrong with it
abbrev pub Fault : Type 0
Fault = ℕ × TextKind

-- the input that was read by here
abbrev pub input_of : Progress → Input
input_of p = record { version = p.version; stores = (close_store (close_log p)).stores }

-- goes on after a line that was read; a fault gets the line's number
abbrev pub at_line : {A : Type 0} → ℕ → Result A TextKind → (A → Result Input Fault) → Result Input Fault
at_line n (Ok x) f = f x
at_line n (Err kind) f = Err (n, kind)

-- what stands after the last LF, as line n
unfoldable pub last_line : ℕ → Progress → List ℕ → Result Input Fault
last_line n p last =
    if length last == 0 then (if p.ended then Ok (input_of p) else Err (n, NoEnd))
    else Err (n, BadLine)

-- the parts of the text from line n on
unfoldable pub read_from : ℕ → Progress → List (List ℕ) → Result Input Fault
read_from n p [] = Err (n, NoEnd)
read_from n p (last ∷ []) = last_line n p last
read_from n p (line ∷ next ∷ more) = at_line n (step p (fields_of line)) (λ q. read_from (n + 1) q (next ∷ more))

-- the version that the header names, if it is one of the two
abbrev pub version_of : List ℕ → Option ℕ
version_of b = if bytes_eq b (codes "1") then Some 1 else if bytes_eq b (codes "2") then Some 2 else None

-- the version that line 1 names
abbrev pub header_of : Fields → Option ℕ
header_of (a ∷ b ∷ []) = if bytes_eq a (codes "raftreplay") then version_of b else None
header_of _ = None

-- goes on after a header with a version; any other header is a fault of line 1
abbrev pub at_header : Option ℕ → (ℕ → Result Input Fault) → Result Input Fault
at_header None f = Err (1, BadHeader)
at_header (Some version) f = f version

-- the input of a text by its parts between the LFs
unfoldable pub read_parts : List (List ℕ) → Result Input Fault
read_parts (line ∷ next ∷ more) = at_header (header_of (fields_of line)) (λ version. read_from 2 (start version) (next ∷ more))
read_parts _ = Err (1, BadHeader)

-- the input of a text, or its first fault
unfoldable pub read_text : List ℕ → Result Input Fault
read_text text = read_parts (parts_of text)

-- ---- what a function of the code answered

-- what reading a text gives, unless memory ran out
abbrev pub GivesText : Result Input TextError → Result Input Fault → Type 0
GivesText (Ok x) read = read ≡ Ok x
GivesText (Err (texts.Fault line kind)) read = read ≡ Err (line, kind)
GivesText (Err texts.NoMemory) read = Unit {0}

-- the error is that of the line with this number
abbrev pub FaultAt : ℕ → LineError → TextError → Type 0
FaultAt n (errors.Bad kind) e = e ≡ texts.Fault n kind
FaultAt n errors.NoMemory e = e ≡ texts.NoMemory
