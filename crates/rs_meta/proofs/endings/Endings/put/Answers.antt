use Rattle.std.proofs.Common.{◌≡◌, ◌∙◌, ◌+◌, ◌-◌, ◌<◌, ap, sym, subst, arith, length}
use Rattle.rs_meta.specs.Addresses.{first_of}
use Rattle.rs_meta.specs.Held.{AreOwn, held_in, held_with, with_ending}
use Rattle.rs_meta.proofs.HeldLaws.{held_before, held_from, length_with, own_with}
use Rattle.rs_meta.proofs.StorePlaces.{follow_on}
use Rattle.rs_meta.proofs.endings.Endings.put.Goals as goal

pub invariant_of-self : goal.invariant_of-self
invariant_of-self c =
    let self = c.args.self.now in
    let slot = c.address-address.result - self.first in
    let at : c.args.ending.address ≡ self.first + slot = omega (arith, c.if-address-self.false, c.address-address.ensures) in
    record {
      within = self.within;
      begins = self.begins;
      counted = ap length c.keep.ensures.slots ∙ (length_with self.slots.items slot c.args.ending ∙ self.counted);
      free = c.keep.ensures.free;
      own = subst (AreOwn self.plan.now self.first) (sym c.keep.ensures.slots) (own_with self.slots.items slot c.args.ending self.plan.now self.first self.own c.requires.plan at);
    }

pub returns-then-address-self-clause-held : goal.returns-then-address-self-clause-held
returns-then-address-self-clause-held c = λ a.
    let self = c.args.self.now in
    let before : c.args.ending.address < first_of self.plan.now self.place = omega (arith, c.if-address-self.true, c.address-address.ensures, self.begins) in
    subst (λ first. held_in first self.slots.items a ≡ held_with self.plan.now self.place c.args.ending (held_in first self.slots.items) a) (sym self.begins)
    (held_before self.plan.now self.place (follow_on self.plan.now c.input-input.ensures.formed self.place self.within) c.args.ending self.slots.items before a)

pub returns-clause-held : goal.returns-clause-held
returns-clause-held c = λ a.
    let self = c.args.self.now in
    let slot = c.address-address.result - self.first in
    let at : c.args.ending.address ≡ self.first + slot = omega (arith, c.if-address-self.false, c.address-address.ensures) in
    ap (λ slots. held_in self.first slots a) c.keep.ensures.slots
    ∙ subst (λ first. held_in first (with_ending self.slots.items slot c.args.ending) a ≡ held_with self.plan.now self.place c.args.ending (held_in first self.slots.items) a) (sym self.begins)
    (held_from self.plan.now self.place (follow_on self.plan.now c.input-input.ensures.formed self.place self.within) c.args.ending self.slots.items slot self.counted (at ∙ ap (λ first. first + slot) self.begins) a)
