use Rattle.std.proofs.Common.{◌≡◌, ◌∙◌, ◌↔◌, sym, subst}
use Rattle.std.specs.List.{count_by}
use Rattle.std.proofs.lemmas.Bool.{eq-eqb, eqb-true}
use Rattle.rs_meta.specs.Held.{AreAllHeld, held_in, is_free}
use Rattle.rs_meta.proofs.HeldLaws.{all_held}
use Rattle.rs_meta.proofs.StorePlaces.{follow_on}
use Rattle.rs_meta.proofs.endings.Endings.complete.Goals as goal

pub returns : goal.returns
returns c =
    let self = c.args.self.now in
    let none_free = subst (λ first. (count_by is_free self.slots.items ≡ 0) ↔ AreAllHeld self.plan.now self.place (held_in first self.slots.items)) (sym self.begins)
    (all_held self.plan.now self.place (follow_on self.plan.now c.input-input.ensures.formed self.place self.within) self.slots.items self.counted) in
    (λ none. none_free.0 (sym self.free ∙ eqb-true self.missing 0 none), λ all. eq-eqb self.missing 0 (self.free ∙ none_free.1 all))
