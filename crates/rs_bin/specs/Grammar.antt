-- Which bytes belong to which input, without a reader.
use Rattle.std.specs.Prelude.{◌≡◌, ℕ, ◌<◌, ◌^◌, List, [], ◌++◌, length}
use Rattle.std.specs.List.{AllByRecursion}
use Rattle.rs_entry.specs.declared.input.Input.{Input}
use Rattle.rs_entry.specs.WellFormed.{WellFormed}
use Rattle.rs_bin.specs.Forms.{form_of}

-- the number of a store's logs has room in four bytes; all other numbers have, where an input is well formed
abbrev pub AreCounted : Input → Type 0
AreCounted x = AllByRecursion (λ s. length s.logs < 2 ^ 32) x.stores

-- the input is well formed, and the bytes are its binary form and nothing else
pub record Belongs (bytes : List ℕ) (x : Input) : Type 0 where
  pub well_formed : WellFormed x
  pub counted : AreCounted x
  pub spelled : bytes ≡ form_of x

-- no bytes that begin with these belong to an input, but these themselves to this one
abbrev pub StandsAlone : List ℕ → Input → Type 0
StandsAlone bytes x = (rest : List ℕ) (y : Input) → Belongs (bytes ++ rest) y → (y ≡ x) × (rest ≡ [])
