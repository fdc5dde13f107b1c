-- The texts of a syntax fault and of a law fault.
use Rattle.std.specs.Prelude.{ℕ, List, [], ◌∷◌, ◌++◌, map, codes}
use Rattle.rs_key.specs.Ranges.{Bounds}
use Rattle.rs_entry.specs.declared.law_fault.LawFault.{LawFault}
use Rattle.rs_entry.specs.declared.law_fault.LawFault.TheVariants as fault
use Rattle.rs_entry.specs.declared.law_fault.Statement.{Statement}
use Rattle.rs_entry.specs.declared.law_fault.Statement.TheVariants as statement
use Rattle.rs_field.specs.declared.fault.TextKind.{TextKind}
use Rattle.rs_field.specs.declared.fault.TextKind.TheVariants.{BadHeader, BadLine, BadNumber, BadKey, BadIndex, BadCarry, Limit, NoEnd}
use Rattle.rs_field.specs.Forms.{Form, Exact, Forms, word, number, bounds, line_text, lines_text}
use Rattle.rs_text.specs.Logs.{region_forms, entry_forms, carried_forms}
use Rattle.rs_text.specs.Outcomes.{mode_forms}

-- ---- syntax

-- the word of a fault's kind
abbrev pub kind_form : TextKind → Form
kind_form BadHeader = word "BadHeader"
kind_form BadLine = word "BadLine"
kind_form BadNumber = word "BadNumber"
kind_form BadKey = word "BadKey"
kind_form BadIndex = word "BadIndex"
kind_form BadCarry = word "BadCarry"
kind_form Limit = word "Limit"
kind_form NoEnd = word "NoEnd"

-- `syntax LINE KIND`
unfoldable pub syntax_text : ℕ → TextKind → List ℕ
syntax_text line kind = line_text (word "syntax" ∷ number line ∷ kind_form kind ∷ [])

-- ---- laws

-- `unlawful NAME NUMBER ..`
abbrev pub unlawful : List ℕ → List ℕ → Forms
unlawful name numbers = word "unlawful" ∷ Exact name ∷ map number numbers

-- a statement as its canonical line: a commit without its carried lines, a carried entry without its first word
abbrev pub statement_forms : Statement → Forms
statement_forms (statement.Boot b) = region_forms b
statement_forms (statement.Entry e) = entry_forms e
statement_forms (statement.Carried c) = carried_forms c

-- `region ID START END`, without peers
abbrev pub range_forms : ℕ → Bounds → Forms
range_forms region range = word "region" ∷ number region ∷ bounds range

-- the lines that tell a fault of the laws
abbrev pub fault_lines : LawFault → List Forms
fault_lines (fault.Differ first second region index was is) = unlawful (codes "differ") (first ∷ second ∷ region ∷ index ∷ []) ∷ statement_forms was ∷ statement_forms is ∷ []
fault_lines (fault.Overlap one other) = unlawful (codes "overlap") (one.region ∷ other.region ∷ []) ∷ region_forms one ∷ region_forms other ∷ []
fault_lines (fault.Reused store region index id) = unlawful (codes "reused") (store ∷ region ∷ index ∷ id ∷ []) ∷ []
fault_lines (fault.NotPrepared store region index source commit) = unlawful (codes "notprepared") (store ∷ region ∷ index ∷ source ∷ commit ∷ []) ∷ []
fault_lines (fault.NotNext store region index source commit target_range source_range) = unlawful (codes "notnext") (store ∷ region ∷ index ∷ source ∷ commit ∷ []) ∷ range_forms region target_range ∷ range_forms source source_range ∷ []
fault_lines (fault.BadRollback store region index commit mode) = (unlawful (codes "badrollback") (store ∷ region ∷ index ∷ commit ∷ []) ++ mode_forms mode) ∷ []
fault_lines (fault.Waits store region index source commit) = unlawful (codes "waits") (store ∷ region ∷ index ∷ source ∷ commit ∷ []) ∷ []
fault_lines (fault.Unborn store region) = unlawful (codes "unborn") (store ∷ region ∷ []) ∷ []

-- the text of a law fault
unfoldable pub fault_text : LawFault → List ℕ
fault_text f = lines_text (fault_lines f)
