-- Which text belongs to which input, in the words of the format and without a reader.
use Rattle.std.specs.Prelude.{ℕ, ◌≤◌, List, length}
use Rattle.std.specs.List.{AllByRecursion}
use Rattle.rs_entry.specs.declared.input.Input.{Input}
use Rattle.rs_entry.specs.WellFormed.{WellFormed}
use Rattle.rs_field.specs.Lines.{parts_of}
use Rattle.rs_field.specs.Forms.{SpellsLines}
use Rattle.rs_text.specs.Logs.{lines_of}

-- the input is well formed, and the text is its canonical one up to spaces and the case of hexadecimal digits
pub record Belongs (text : List ℕ) (x : Input) : Type 0 where
  pub well_formed : WellFormed x
  pub spelled : SpellsLines (parts_of text) (lines_of x)

-- no store has more logs than there are bytes: a log has a line of its own
abbrev pub HasFewLogs : List ℕ → Input → Type 0
HasFewLogs text x = AllByRecursion (λ s. length s.logs ≤ length text) x.stores
