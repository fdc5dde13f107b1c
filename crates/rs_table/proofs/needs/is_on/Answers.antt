use Rattle.std.proofs.Common.{rules, ◌≡◌, ◌<◌, ◌≤◌, sym, ap, ◌∙◌, true, false, arith, subst, length}
use Rattle.std.specs.Prelude.{Some, ◌&&◌, ltb, ◌==◌, slice_get}
use Rattle.rs_check.specs.Plans.{address_of}
use Rattle.rs_check.specs.Values.{count_of}
use Rattle.rs_table.proofs.Counts.{on_by, on_none}
use Rattle.rs_table.proofs.needs.is_on.Goals as goal

pub returns-in-None-clause-on : goal.returns-in-None-clause-on
returns-in-None-clause-on c = sym (on_none c.args.plan.now c.args.place c.args.a (subst (λ x. length x.stores ≤ c.args.place) c.input.ensures.value c.in-None.ensures))

pub returns-then-a-count-clause-on : goal.returns-then-a-count-clause-on
returns-then-a-count-clause-on c =
    let p = c.args.plan.now in
    let store : slice_get p.stores c.args.place ≡ Some c.in-Some.store.now = search rules in
    let lt : c.args.a < count_of p = search rules in
    let test : ltb c.args.a (count_of p) ≡ true = grind (arith, lt) in
    ap (λ x. x.0 == c.in-Some.store.now.id) c.address.ensures
    ∙ (ap (λ b. b && ((address_of p c.args.a).0 == c.in-Some.store.now.id)) (sym test)
    ∙ sym (on_by p c.args.place c.args.a c.in-Some.store.now store))

pub returns-else-a-count-clause-on : goal.returns-else-a-count-clause-on
returns-else-a-count-clause-on c =
    let p = c.args.plan.now in
    let store : slice_get p.stores c.args.place ≡ Some c.in-Some.store.now = search rules in
    let le : count_of p ≤ c.args.a = search rules in
    let test : ltb c.args.a (count_of p) ≡ false = grind (arith, le) in
    ap (ltb c.args.a) c.count.ensures
    ∙ (test
    ∙ (ap (λ b. b && ((address_of p c.args.a).0 == c.in-Some.store.now.id)) (sym test)
    ∙ sym (on_by p c.args.place c.args.a c.in-Some.store.now store)))
