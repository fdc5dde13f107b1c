use Rattle.std.proofs.Common.{◌≡◌, subst, sym, true, false, inl, inr, Bool, ℕ, refl}
use Rattle.rs_table.specs.Moves.{Moves}
use Rattle.rs_table.specs.Tellings.{has, may_grow, numbers}
use Rattle.rs_table.proofs.cut.Growing.grow.Goals as goal

pub step-requires-clause-all : goal.step-requires-clause-all
step-requires-clause-all c x grows = elim (c.in-Some.ensures.kept x (c.loop-a.invariant.4 x grows) grows) [
  | inl e ↦ (let same : x ≡ c.in-Some.a = cc e in inl same)
  | inr p ↦ inr p.1
]

pub returns-clause-greatest : goal.returns-clause-greatest
returns-clause-greatest c =
    let s = c.loop-a.self in
    let i = c.loop-a.invariant in
    let moves : Moves s.cut.plan.now s.cut.place = subst (λ x. Moves s.cut.plan.now x) (sym i.1) (subst (λ x. Moves x.now c.args.self.now.cut.place) (sym i.0) c.moves.ensures) in
    moves.greatest (has s.told) (numbers s.cut.taken.items) s.known s.cut.cut s.told_all (λ x. stuck x (may_grow s.cut.plan.now (has s.told) (numbers s.cut.taken.items) x) refl)
  where
    stuck : (x : ℕ) (b : Bool) → may_grow c.loop-a.self.cut.plan.now (has c.loop-a.self.told) (numbers c.loop-a.self.cut.taken.items) x ≡ b → may_grow c.loop-a.self.cut.plan.now (has c.loop-a.self.told) (numbers c.loop-a.self.cut.taken.items) x ≡ false
    stuck x false e = e
    stuck x true e = elim (c.in_default.ensures.kept x (c.loop-a.invariant.4 x e) e) [
      | inl p ↦ absurd cc
      | inr p ↦ absurd (let q = p.0 in cc q)
    ]
