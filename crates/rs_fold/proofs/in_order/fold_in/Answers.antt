use Rattle.std.proofs.Common.{rules, ◌≡◌, ◌==◌, Some, subst}
use Rattle.std.specs.List.{find}
use Rattle.rs_entry.specs.declared.input.Store.{Store}
use Rattle.rs_fold.specs.Ordered.{IsFoldOf}
use Rattle.rs_fold.proofs.StoreLaws.{found_formed, found_lawful, found_scripted}
use Rattle.rs_fold.proofs.in_order.fold_in.Goals as goal

pub outcome_in_order-requires-clause-formed : goal.outcome_in_order-requires-clause-formed
outcome_in_order-requires-clause-formed c =
    let found : find (λ (s : Store). s.id == c.args.store) c.args.plan.now.stores ≡ Some c.in-Some.one.now = (search rules) in
    found_formed c.args.plan.now c.input.ensures.formed c.input.ensures.lawful (λ (s : Store). s.id == c.args.store) c.in-Some.one.now found

pub outcome_in_order-requires-clause-scripted : goal.outcome_in_order-requires-clause-scripted
outcome_in_order-requires-clause-scripted c =
    let found : find (λ (s : Store). s.id == c.args.store) c.args.plan.now.stores ≡ Some c.in-Some.one.now = (search rules) in
    found_scripted c.args.plan.now c.input.ensures.formed c.input.ensures.lawful (λ (s : Store). s.id == c.args.store) c.in-Some.one.now found

pub outcome_in_order-requires-clause-lawful : goal.outcome_in_order-requires-clause-lawful
outcome_in_order-requires-clause-lawful c =
    let found : find (λ (s : Store). s.id == c.args.store) c.args.plan.now.stores ≡ Some c.in-Some.one.now = (search rules) in
    found_lawful c.args.plan.now c.input.ensures.formed c.input.ensures.lawful (λ (s : Store). s.id == c.args.store) c.in-Some.one.now found

pub returns : goal.returns
returns c = λ s e.
    let found : find (λ (s : Store). s.id == c.args.store) c.args.plan.now.stores ≡ Some c.in-Some.one.now = (search rules) in
    let one : c.in-Some.one.now ≡ s = cc (found, e) in
    subst (λ (z : Store). IsFoldOf z c.args.order.now c.outcome_in_order.result) one c.outcome_in_order.ensures
