use Rattle.std.proofs.Common.{◌≡◌, ◌++◌, ◌∙◌, List, [], ◌∷◌, ℕ, drop, refl, sym, ap}
use Rattle.std.proofs.lemmas.List.{append-nil, drop_all}
use Rattle.rs_field.specs.Forms.{Forms, more_text}
use Rattle.rs_text.specs.Logs.{pair_forms}
use Rattle.rs_text.proofs.logs.put_pairs.Goals as goal

no_keys : (xs : List ℕ) → pair_forms xs [] ≡ []
no_keys [] = refl
no_keys (x ∷ xs) = refl

pub returns-then-i-keys : goal.returns-then-i-keys
returns-then-i-keys c =
    let i = c.loop-i.i in
    let none : drop i c.args.keys.now ≡ [] = drop_all i c.args.keys.now c.if-i-keys.true in
    let e : pair_forms (drop i c.args.ids.now) (drop i c.args.keys.now) ≡ [] = rw none (no_keys (drop i c.args.ids.now)) in
    sym (append-nil c.loop-i.out.items) ∙ ap (λ (fs : Forms). c.loop-i.out.items ++ more_text fs) (sym e) ∙ c.loop-i.invariant
