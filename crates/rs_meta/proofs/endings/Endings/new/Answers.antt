use Rattle.std.proofs.Common.{◌∙◌, sym}
use Rattle.rs_meta.proofs.HeldLaws.{none_held, none_own}
use Rattle.rs_meta.proofs.endings.Endings.new.Goals as goal

pub invariant_of-result : goal.invariant_of-result
invariant_of-result c = record {
  within = c.requires;
  begins = c.first_of-first.ensures;
  counted = c.in_ok-slots.ensures.counted ∙ c.count_on-count.ensures;
  free = sym c.in_ok-slots.ensures.free;
  own = none_own c.args.plan.now c.first_of-first.result c.in_ok-slots.slots.items (c.in_ok-slots.ensures.free ∙ sym c.in_ok-slots.ensures.counted);
}

pub returns-clause-none : goal.returns-clause-none
returns-clause-none c = none_held c.first_of-first.result c.in_ok-slots.slots.items (c.in_ok-slots.ensures.free ∙ sym c.in_ok-slots.ensures.counted)
