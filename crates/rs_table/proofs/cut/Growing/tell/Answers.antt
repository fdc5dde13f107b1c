use Rattle.std.proofs.Common.{rules, ◌≡◌, subst, sym, true, ◌∷◌, []}
use Rattle.rs_table.specs.Tellings.{has, is_among, numbers}
use Rattle.rs_table.proofs.Cutting.{greatest_stuck, told_one}
use Rattle.rs_table.proofs.NeedLists.{among_one}
use Rattle.rs_table.proofs.cut.Growing.tell.Goals as goal

pub grow-requires : goal.grow-requires
grow-requires c = record {
  all = λ x grows.
      (let s = c.args.self.now in
      let one = told_one s.cut.plan.now (has s.told) (has c.put.new.self) (numbers s.cut.taken.items) c.args.a c.args.nth c.in_ok-put.ensures.ok
      (λ y g. greatest_stuck s.cut.plan.now s.cut.place (has s.told) (numbers s.cut.taken.items) s.known c.requires.greatest y g) x grows in
      let items : c.in_ok-work.work.items ≡ c.args.a ∷ [] = search rules in
      subst (λ xs. is_among x xs ≡ true) (sym items) (subst (λ z. is_among x (z ∷ []) ≡ true) one (among_one x)));
}
