-- Reading and writing agree with what belongs to what.
use Rattle.std.proofs.Common.{◌≡◌, ℕ, List, Result, Ok, Err, sym, subst, ◌∙◌}
use Rattle.std.specs.Prelude.{IfOk}
use Rattle.rs_entry.specs.declared.input.Input.{Input}
use Rattle.rs_text.specs.declared.error.TextError.{TextError}
use Rattle.rs_text.specs.Reading.{GivesText, read_text}
use Rattle.rs_text.specs.Grammar.{Belongs}
use Rattle.rs_text.proofs.FoundTexts.{found}
use Rattle.rs_text.proofs.OnlyTexts.{only}

pub found_given : (r : Result Input TextError) (text : List ℕ) → GivesText r (read_text text) → IfOk r (λ x. Belongs text x)
found_given (Ok x) text e = found text x e
found_given (Err error) text e = tt

pub only_given : (r : Result Input TextError) (text : List ℕ) → GivesText r (read_text text) → (x : Input) → Belongs text x → GivesText r (Ok x)
only_given r text e x b = subst (GivesText r) (only text x b) e

-- at most one input belongs to a text
pub one_input : (text : List ℕ) (x y : Input) → Belongs text x → Belongs text y → x ≡ y
one_input text x y b c = let e : Ok x ≡ Ok y = sym (only text x b) ∙ only text y c in cc
