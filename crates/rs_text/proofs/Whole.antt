-- Reading line by line: what was read so far, then the rest, gives the whole.
use Rattle.rs_field.specs.declared.fault.LineError.TheVariants as errors
use Rattle.std.proofs.Common.{◌≡◌, ℕ, ◌+◌, List, [], ◌∷◌, Result, Ok, Err, refl, sym, ap, subst, ◌∙◌}
use Rattle.rs_entry.specs.declared.input.Input.{Input}
use Rattle.rs_text.specs.declared.progress.Progress.{Progress}
use Rattle.rs_field.specs.declared.fault.TextKind.TheVariants.{BadHeader}
use Rattle.rs_field.specs.declared.fault.LineError.{LineError}
use Rattle.rs_text.specs.declared.error.TextError.{TextError}
use Rattle.rs_field.specs.Lines.{parts_of, fields_of}
use Rattle.rs_field.specs.Gives.{Fails}
use Rattle.rs_text.specs.Reading.{Fault, FaultAt, GivesText, at_line, last_line, header_of, at_header, read_from, read_parts, read_text}
use Rattle.rs_text.specs.Steps.{step, start}
use Rattle.rs_field.proofs.CutLaws.{some_parts}

one_line : (n : ℕ) (p : Progress) (line : List ℕ) (after : List ℕ) → read_from n p (line ∷ parts_of after) ≡ at_line n (step p (fields_of line)) (λ q. read_from (n + 1) q (parts_of after))
unfolding read_from
one_line n p line after = rw (some_parts after) refl

pub goes_on : (n : ℕ) (p q : Progress) (rest line after : List ℕ) (whole : Result Input Fault) → parts_of rest ≡ line ∷ parts_of after → step p (fields_of line) ≡ Ok q
    → read_from n p (parts_of rest) ≡ whole → read_from (n + 1) q (parts_of after) ≡ whole
goes_on n p q rest line after whole cut h so_far =
    sym (ap (λ parts. read_from n p parts) cut ∙ one_line n p line after ∙ rw h refl) ∙ so_far

pub bad_line : (n : ℕ) (p : Progress) (rest line after : List ℕ) (error : LineError) (e : TextError) (whole : Result Input Fault) → parts_of rest ≡ line ∷ parts_of after → Fails error (step p (fields_of line)) → FaultAt n error e
    → read_from n p (parts_of rest) ≡ whole → GivesText (Err e) whole
bad_line n p rest line after errors.NoMemory e whole cut h f so_far = rw f tt
bad_line n p rest line after (errors.Bad kind) e whole cut h f so_far =
    rw f (sym so_far ∙ ap (λ parts. read_from n p parts) cut ∙ one_line n p line after ∙ rw h refl)

pub ends : (n : ℕ) (p : Progress) (rest : List ℕ) (r : Result Input TextError) (whole : Result Input Fault) → parts_of rest ≡ rest ∷ [] → GivesText r (last_line n p rest)
    → read_from n p (parts_of rest) ≡ whole → GivesText r whole
unfolding read_from
ends n p rest r whole cut given so_far = subst (GivesText r) (sym (ap (λ parts. read_from n p parts) cut) ∙ so_far) given

pub no_lines : (text : List ℕ) → parts_of text ≡ text ∷ [] → read_text text ≡ Err (1, BadHeader)
unfolding read_text read_parts
no_lines text cut = rw cut refl

pub headed : (text first rest : List ℕ) → parts_of text ≡ first ∷ parts_of rest → read_text text ≡ at_header (header_of (fields_of first)) (λ version. read_from 2 (start version) (parts_of rest))
unfolding read_text read_parts
headed text first rest cut = rw (cut, some_parts rest) refl
