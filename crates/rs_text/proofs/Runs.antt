-- Lines that are spelled one after the other are read one after the other.
use Rattle.std.proofs.Common.{◌≡◌, ℕ, ◌+◌, List, [], ◌∷◌, ◌++◌, Ok, sym, ap, subst, ◌∙◌}
use Rattle.rs_text.specs.declared.progress.Progress.{Progress}
use Rattle.rs_field.specs.Lines.{fields_of}
use Rattle.rs_field.specs.Fields.{Fields}
use Rattle.rs_text.specs.Steps.{step}
use Rattle.rs_text.specs.Reading.{last_line, read_from}
use Rattle.rs_field.specs.Forms.{Forms, SpellsFields, SpellsLines}

-- however these lines are spelled, they lead from p to q
abbrev pub Leads : Progress → List Forms → Progress → Type 0
Leads p [] q = p ≡ q
Leads p (forms ∷ lines) q = (r : Progress) × ((fields : Fields) → SpellsFields fields forms → step p fields ≡ Ok r) × Leads r lines q

pub Leads-append : (p : Progress) (a b : List Forms) (q r : Progress) → Leads p a q → Leads q b r → Leads p (a ++ b) r
Leads-append p [] b q r h k = subst (λ (s : Progress). Leads s b r) (sym h) k
Leads-append p (forms ∷ a) b q r h k = (h.0, h.1, Leads-append h.0 a b q r h.2 k)

pub run : (lines : List Forms) (n : ℕ) (p q : Progress) (parts : List (List ℕ)) → Leads p lines q → SpellsLines parts lines → (m : ℕ) × (read_from n p parts ≡ last_line m q [])
unfolding read_from
run [] n p q [] h s = absurd s
run [] n p q (last ∷ []) h s = (n, ap (λ (l : List ℕ). last_line n p l) s ∙ ap (λ (r : Progress). last_line n r []) h)
run [] n p q (last ∷ next ∷ more) h s = absurd s
run (forms ∷ lines) n p q [] h s = absurd s
run (forms ∷ lines) n p q (line ∷ []) h s = absurd s
run (forms ∷ lines) n p q (line ∷ next ∷ more) h s =
    let rest = run lines (n + 1) h.0 q (next ∷ more) h.2 s.1 in
    (rest.0, rw (h.1 (fields_of line) s.0) rest.1)
