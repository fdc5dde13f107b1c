-- The text of some lines is cut into these lines and fields again.
use Rattle.std.proofs.Common.{◌≡◌, ℕ, ◌<◌, false, eqb, List, [], ◌∷◌, ◌++◌, length, refl, sym, ap, subst, ◌∙◌, append_assoc}
use Rattle.std.specs.List.{flat_map, All}
use Rattle.std.proofs.lemmas.List.Elements.{All-append, All-from_recursion, recursion_from_All}
use Rattle.std.proofs.lemmas.List.{append-nil}
use Rattle.std.proofs.lemmas.List.Splits.{slice_split_none, slice_split_at}
use Rattle.std.proofs.lemmas.Bool.{lt-ltb}
use Rattle.rs_field.specs.Lines.{fields_of, parts_of}
use Rattle.rs_field.specs.Forms.{Form, Forms, field_text, fields_text, line_text, Spells, SpellsFields, SpellsLines}
use Rattle.rs_field.proofs.CutLaws.{some_parts}

-- a field's bytes: some, and neither space nor LF
pub record IsPlain (f : List ℕ) : Type 0 where
  pub some : 0 < length f
  pub no_space : All (λ b. eqb b 32 ≡ false) f
  pub no_line : All (λ b. eqb b 10 ≡ false) f

pub one_field : (f : List ℕ) → IsPlain f → fields_of f ≡ f ∷ []
unfolding fields_of
one_field f h = rw (slice_split_none (λ b. eqb b 32) f h.no_space, lt-ltb 0 (length f) h.some) refl

pub field_before : (f rest : List ℕ) → IsPlain f → fields_of (f ++ 32 ∷ rest) ≡ f ∷ fields_of rest
unfolding fields_of
field_before f rest h = rw (slice_split_at (λ b. eqb b 32) f 32 rest h.no_space refl, lt-ltb 0 (length f) h.some) refl

pub line_before : (line rest : List ℕ) → All (λ b. eqb b 10 ≡ false) line → parts_of (line ++ 10 ∷ rest) ≡ line ∷ parts_of rest
unfolding parts_of
line_before line rest h = slice_split_at (λ b. eqb b 10) line 10 rest h refl

-- a form that is spelled as it is written
pub record IsField (g : Form) : Type 0 where
  pub plain : IsPlain (field_text g)
  pub again : Spells (field_text g) g

abbrev pub AreFields : Forms → Type 0
AreFields [] = Unit {0}
AreFields (g ∷ gs) = IsField g × AreFields gs

pub fields_again : (g : Form) (gs : Forms) → AreFields (g ∷ gs) → SpellsFields (fields_of (fields_text (g ∷ gs))) (g ∷ gs)
fields_again g [] h = rw (append-nil (field_text g), one_field (field_text g) h.0.plain) (h.0.again, tt)
fields_again g (k ∷ gs) h = rw (field_before (field_text g) (fields_text (k ∷ gs)) h.0.plain) (h.0.again, fields_again k gs h.1)

pub line_plain : (g : Form) (gs : Forms) → AreFields (g ∷ gs) → All (λ b. eqb b 10 ≡ false) (fields_text (g ∷ gs))
line_plain g [] h = rw (append-nil (field_text g)) h.0.plain.no_line
line_plain g (k ∷ gs) h = All-append (λ b. eqb b 10 ≡ false) (field_text g) (32 ∷ fields_text (k ∷ gs)) h.0.plain.no_line (All-from_recursion (λ b. eqb b 10 ≡ false) (32 ∷ fields_text (k ∷ gs)) (refl, recursion_from_All (λ b. eqb b 10 ≡ false) (fields_text (k ∷ gs)) (line_plain k gs h.1)))

abbrev pub AreLines : List Forms → Type 0
AreLines [] = Unit {0}
AreLines ([] ∷ lines) = ⊥
AreLines ((g ∷ gs) ∷ lines) = AreFields (g ∷ gs) × AreLines lines

spelled_more : (line : List ℕ) (rest : List ℕ) (forms : Forms) (lines : List Forms) → SpellsFields (fields_of line) forms → SpellsLines (parts_of rest) lines → SpellsLines (line ∷ parts_of rest) (forms ∷ lines)
spelled_more line rest forms lines h k =
    let e = some_parts rest in
    subst (λ (ps : List (List ℕ)). SpellsLines (line ∷ ps) (forms ∷ lines)) (sym e) (h, subst (λ (ps : List (List ℕ)). SpellsLines ps lines) e k)

-- the text of lines is spelled by them
pub lines_again : (lines : List Forms) → AreLines lines → SpellsLines (parts_of (flat_map line_text lines)) lines
unfolding parts_of
lines_again [] h = refl
lines_again ([] ∷ lines) h = absurd h
lines_again ((g ∷ gs) ∷ lines) h =
    let rest : List ℕ = flat_map line_text lines in
    let text : flat_map line_text ((g ∷ gs) ∷ lines) ≡ fields_text (g ∷ gs) ++ 10 ∷ rest = append_assoc (fields_text (g ∷ gs)) (10 ∷ []) rest in
    let cut : parts_of (flat_map line_text ((g ∷ gs) ∷ lines)) ≡ fields_text (g ∷ gs) ∷ parts_of rest = ap parts_of text ∙ line_before (fields_text (g ∷ gs)) rest (line_plain g gs h.0) in
    subst (λ (ps : List (List ℕ)). SpellsLines ps ((g ∷ gs) ∷ lines)) (sym cut) (spelled_more (fields_text (g ∷ gs)) rest (g ∷ gs) lines (fields_again g gs h.0) (lines_again lines h.1))
