use Rattle.std.proofs.Common.{rules, sym, ap, ◌∙◌, ◌≡◌, Some}
use Rattle.rs_entry.specs.declared.entry.Body.TheVariants as body
use Rattle.rs_store.specs.Runs.{line_entry}
use Rattle.rs_check.specs.Values.{region_of}
use Rattle.rs_apply.specs.Findings.{find_on}
use Rattle.rs_apply.proofs.Commits.{source_of}
use Rattle.rs_apply.proofs.TakenOut.{plan_of, found_there, without, on_ok}
use Rattle.rs_apply.proofs.merge.merge.Goals as goal

pub commit-requires-clause-plan : goal.commit-requires-clause-plan
commit-requires-clause-plan c = (plan_of c.args.next.plan.now _ _ _ _ c.in-Some-take_closed.ensures c.requires.plans).0

pub commit-requires-clause-store : goal.commit-requires-clause-store
commit-requires-clause-store c =
    let next = c.args.next in
    let r = c.requires in
    let merge = c.args.merge in
    let source = source_of next.plan.now r.laws next.address next.index (line_entry next.line) next.entry c.args.state.now c.args.map.now r.held r.accept merge.0 merge.1 c.args.carried.now r.body in
    let found : find_on next.plan.now next.address merge.0 ≡ Some c.in-Some.place = search rules in
    (found_there next.plan.now next.address merge.0 c.in-Some.place merge.1 c.in-Some-take_closed.source c.args.closed.now.items c.take_closed.new.closed.items c.in-Some-take_closed.ensures source found).store

pub commit-requires-clause-body : goal.commit-requires-clause-body
commit-requires-clause-body c =
    let next = c.args.next in
    let r = c.requires in
    let merge = c.args.merge in
    let source = source_of next.plan.now r.laws next.address next.index (line_entry next.line) next.entry c.args.state.now c.args.map.now r.held r.accept merge.0 merge.1 c.args.carried.now r.body in
    let found : find_on next.plan.now next.address merge.0 ≡ Some c.in-Some.place = search rules in
    let there = found_there next.plan.now next.address merge.0 c.in-Some.place merge.1 c.in-Some-take_closed.source c.args.closed.now.items c.take_closed.new.closed.items c.in-Some-take_closed.ensures source found in
    r.body ∙ ap (λ q. body.Commit q merge.1 c.args.carried.now) (sym there.region) ∙ ap (λ z. body.Commit (region_of next.plan.now c.in-Some-take_closed.source.address) z c.args.carried.now) (sym there.commit)

pub returns-clause-plans : goal.returns-clause-plans
returns-clause-plans c = on_ok _ _ ((plan_of c.args.next.plan.now _ _ _ _ c.in-Some-take_closed.ensures c.requires.plans).1)

pub returns-clause-closed : goal.returns-clause-closed
returns-clause-closed c =
    let next = c.args.next in
    let found : find_on next.plan.now next.address c.args.merge.0 ≡ Some c.in-Some.place = search rules in
    on_ok _ _ (without next.plan.now next.address c.in-Some.place c.args.merge c.in-Some-take_closed.source c.args.closed.now.items c.take_closed.new.closed.items c.in-Some-take_closed.ensures found)
