-- What the line of a first fault says of this text and of others, without a reader where it can.
use Rattle.std.specs.Prelude.{◌≡◌, ◌⊎◌, ℕ, ◌+◌, List, [], ◌∷◌, ◌++◌, length, Result, Ok, Err}
use Rattle.rs_entry.specs.declared.input.Input.{Input}
use Rattle.rs_field.specs.declared.fault.TextKind.TheVariants.{NoEnd}
use Rattle.rs_field.specs.Lines.{parts_of}
use Rattle.rs_text.specs.declared.error.TextError.{TextError}
use Rattle.rs_text.specs.declared.error.TextError.TheVariants as texts
use Rattle.rs_text.specs.Reading.{Fault, read_text}
use Rattle.rs_text.specs.Grammar.{Belongs}

-- both texts have the same first m lines, each of them ended
pub record SameLines (m : ℕ) (t u : List ℕ) : Type 0 where
  pub first : List ℕ
  pub lines : List (List ℕ)
  pub next : List ℕ
  pub more : List (List ℕ)
  pub other : List ℕ
  pub others : List (List ℕ)
  pub parts : parts_of t ≡ first ∷ (lines ++ next ∷ more)
  pub other_parts : parts_of u ≡ first ∷ (lines ++ other ∷ others)
  pub count : m ≡ 1 + length lines

-- the text u is the lines of t before line m
pub record LinesBefore (m : ℕ) (t u : List ℕ) : Type 0 where
  pub first : List ℕ
  pub lines : List (List ℕ)
  pub next : List ℕ
  pub more : List (List ℕ)
  pub parts : parts_of t ≡ first ∷ (lines ++ next ∷ more)
  pub parts_before : parts_of u ≡ first ∷ (lines ++ [] ∷ [])
  pub count : m ≡ 2 + length lines

-- nothing is wrong with a text, but that it may end too early
abbrev pub IsFaultless : ℕ → Result Input Fault → Type 0
IsFaultless m read = (read ≡ Err (m, NoEnd)) ⊎ ((x : Input) × (read ≡ Ok x))

-- nothing that begins with the lines up to the fault's belongs to an input
abbrev pub NoneBelongs : List ℕ → Result Input TextError → Type 0
NoneBelongs text (Err (texts.Fault line kind)) = (u : List ℕ) → SameLines line text u → (x : Input) → Belongs u x → ⊥
NoneBelongs text _ = Unit {0}

-- the lines before the fault's, as a whole text, have no fault, but that `end` may be missing
abbrev pub NoneBefore : List ℕ → Result Input TextError → Type 0
NoneBefore text (Err (texts.Fault line kind)) = (u : List ℕ) → LinesBefore line text u → IsFaultless line (read_text u)
NoneBefore text _ = Unit {0}
