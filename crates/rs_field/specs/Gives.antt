-- What a function of the code answered, against what reading gives: the same, unless memory ran out.
use Rattle.std.specs.Prelude.{◌≡◌, ℕ, List, Result, Ok, Err, IsErr}
use Rattle.std.specs.Borrow.{Bor}
use Rattle.hex.specs.declared.error.FromHexError.{FromHexError}
use Rattle.rs_field.specs.declared.fault.TextKind.{TextKind}
use Rattle.rs_field.specs.declared.fault.TextKind.TheVariants.{BadKey}
use Rattle.rs_field.specs.declared.fault.LineError.{LineError}
use Rattle.rs_field.specs.declared.fault.LineError.TheVariants as errors
use Rattle.rs_field.specs.Fields.{Fields, Read}

-- reading has this fault; want of memory says nothing of it
abbrev pub Fails : {Y : Type 0} → LineError → Result Y TextKind → Type 0
Fails errors.NoMemory read = Unit {0}
Fails (errors.Bad kind) read = read ≡ Err kind

-- reading gives the value as it is viewed, or fails so
abbrev pub Gives : {X Y : Type 0} → (X → Y) → Result X LineError → Result Y TextKind → Type 0
Gives view (Ok x) read = read ≡ Ok (view x)
Gives view (Err e) read = Fails e read

-- the same, where fields are taken from the front
abbrev pub Takes : {X : Type 0} → Result X LineError → Fields → Read X → Type 0
Takes (Ok x) after read = read ≡ Ok (x, after)
Takes (Err e) after read = Fails e read

-- the same, where no memory is used
abbrev pub TakesPlain : {X : Type 0} → Result X TextKind → Fields → Read X → Type 0
TakesPlain (Ok x) after read = read ≡ Ok (x, after)
TakesPlain (Err kind) after read = read ≡ Err kind

-- the same of a field, which is lent
abbrev pub TakesField : Result (Bor (List ℕ)) TextKind → Fields → Read (List ℕ) → Type 0
TakesField (Ok f) after read = read ≡ Ok (f.now, after)
TakesField (Err kind) after read = read ≡ Err kind

-- the bytes that digits spell, or that they spell none: BadKey
abbrev pub Decodes : Result (List ℕ) LineError → Result (List ℕ) FromHexError → Type 0
Decodes (Ok bytes) read = read ≡ Ok bytes
Decodes (Err errors.NoMemory) read = Unit {0}
Decodes (Err (errors.Bad kind)) read = (kind ≡ BadKey) × IsErr read
