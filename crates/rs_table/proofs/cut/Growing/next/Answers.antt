use Rattle.std.proofs.Common.{◌∙◌, ap, sym, refl, inl, inr, Some}
use Rattle.std.proofs.lemmas.Bool.{both_ways}
use Rattle.rs_table.specs.Tellings.{has, may_grow, numbers}
use Rattle.rs_table.proofs.NeedLists.{among_last}
use Rattle.rs_table.proofs.cut.Growing.next.Goals as goal

pub loop-a-preserved : goal.loop-a-preserved
loop-a-preserved c x among grows =
    let s = c.args.self.now in
    elim (among_last x c.in-Some.a c.loop-a.work.items c.pop.new.self.items c.in-Some.ensures.items (c.loop-a.invariant x among grows)) [
      | inl e ↦ absurd (both_ways (may_grow s.cut.plan.now (has s.told) (numbers s.cut.taken.items) x) (sym (c.if-may.ensures.may ∙ ap (may_grow s.cut.plan.now (has s.told) (numbers s.cut.taken.items)) e)) grows)
      | inr i ↦ i
    ]

pub returns-then-may-clause-kept : goal.returns-then-may-clause-kept
returns-then-may-clause-kept c x among grows = elim (among_last x c.in-Some.a c.loop-a.work.items c.pop.new.self.items c.in-Some.ensures.items (c.loop-a.invariant x among grows)) [
  | inl e ↦ inl (ap Some e)
  | inr i ↦ inr (refl, i)
]
