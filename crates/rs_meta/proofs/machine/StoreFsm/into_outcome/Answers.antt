use Rattle.std.proofs.Common.{◌∙◌, ◌<◌, ap, sym, subst, length}
use Rattle.std.specs.List.{filter_map}
use Rattle.rs_table.specs.Views.{place_of}
use Rattle.rs_meta.specs.Addresses.{count_on, first_of}
use Rattle.rs_meta.specs.Held.{AreOwn}
use Rattle.rs_meta.specs.Readings.{AreEndings}
use Rattle.rs_meta.proofs.HeldLaws.{all_endings}
use Rattle.rs_meta.proofs.StorePlaces.{follow_on}
use Rattle.rs_meta.proofs.machine.StoreFsm.into_outcome.Goals as goal

pub read_off-requires-clause-endings : goal.read_off-requires-clause-endings
read_off-requires-clause-endings c =
    let self = c.args.self in
    let input = self.plan.now in
    let endings = self.endings in
    let slots = endings.slots.items in
    let begins = endings.begins ∙ (ap (λ p. first_of p.now endings.place) self.endings_plan ∙ ap (first_of input) self.endings_place) in
    let counted = endings.counted ∙ (ap (λ p. count_on p.now endings.place) self.endings_plan ∙ ap (count_on input) self.endings_place) in
    let within = subst (λ k. k < length input.stores) self.endings_place (subst (λ p. endings.place < length p.now.stores) self.endings_plan endings.within) in
    let follow = follow_on input c.input.ensures.formed self.place within in
    let own = subst (λ p. AreOwn p.now endings.first slots) self.endings_plan endings.own in
    subst (AreEndings input (place_of self.table)) (sym c.in_ok-endings.ensures)
    (subst (λ p. AreEndings input p (filter_map (λ slot. slot) slots)) (sym self.table_place) (all_endings input self.place follow endings.first slots begins counted own c.requires.complete.ended))
