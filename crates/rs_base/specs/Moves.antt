-- What a source has left and what a sink took, after bytes were moved, where these are told.
use Rattle.std.specs.Prelude.{◌≡◌, ℕ, ◌<◌, ◌≤◌, List, ◌++◌, length, Option}
use Rattle.std.specs.Io.KnownBytes.{Consumes, Appends}

-- the first n bytes left were taken away
abbrev pub Takes : Option (List ℕ) → Option (List ℕ) → ℕ → Type 0
Takes old new n = (front : List ℕ) × (length front ≡ n) × Consumes old new front

-- some of the first bytes left were taken away, at most n of them
abbrev pub TakesAtMost : Option (List ℕ) → Option (List ℕ) → ℕ → Type 0
TakesAtMost old new n = (front : List ℕ) × (length front ≤ n) × Consumes old new front

-- a front of these bytes was appended, and not all of them
abbrev pub AppendsPart : Option (List ℕ) → Option (List ℕ) → List ℕ → Type 0
AppendsPart old new bytes =
    (front : List ℕ) × (rest : List ℕ) × (bytes ≡ front ++ rest) × (0 < length rest) × Appends old new front
