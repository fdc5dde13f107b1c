use Rattle.std.proofs.Common.{subst, sym, ◌<◌}
use Rattle.rs_store.specs.Runs.{line_entry}
use Rattle.rs_msg.specs.Maps.{HasItems, LiesIn, items_at, items_of_both}
use Rattle.rs_check.specs.Values.{count_of}
use Rattle.rs_msg.specs.Held.{IsHeld}
use Rattle.rs_apply.proofs.Commits.{inside_source, inside_target, next_to, commits, small_source}
use Rattle.rs_apply.proofs.merge.commit.Goals as goal

pub join-requires-clause-next : goal.join-requires-clause-next
join-requires-clause-next c =
    let next = c.args.next in
    let r = c.requires in
    let source = c.args.source in
    let taken = c.take-state_there.result in
    let below = subst (λ z. source.address < count_of z) r.plan source.below in
    let held = subst (λ z. IsHeld z source.address source.commit taken.0 taken.1) r.plan c.take-state_there.ensures.held in
    next_to next.plan.now r.laws next.address next.index (line_entry next.line) next.entry c.args.state.now c.args.map.now r.held r.accept source.address source.commit c.args.carried.now below r.store taken.0 taken.1 held r.body

pub join-requires-clause-map : goal.join-requires-clause-map
join-requires-clause-map c =
    let next = c.args.next in
    let r = c.requires in
    let source = c.args.source in
    let taken = c.take-state_there.result in
    let below = subst (λ z. source.address < count_of z) r.plan source.below in
    let held = subst (λ z. IsHeld z source.address source.commit taken.0 taken.1) r.plan c.take-state_there.ensures.held in
    subst (λ m. LiesIn c.args.state.now.range m) (sym c.replace-whole.ensures.value)
    (inside_target next.plan.now r.laws next.address next.index (line_entry next.line) next.entry c.args.state.now c.args.map.now r.held r.accept source.address source.commit c.args.carried.now below r.store taken.0 taken.1 held r.body)

pub join-requires-clause-items : goal.join-requires-clause-items
join-requires-clause-items c =
    let next = c.args.next in
    let r = c.requires in
    let source = c.args.source in
    let taken = c.take-state_there.result in
    let below = subst (λ z. source.address < count_of z) r.plan source.below in
    let held = subst (λ z. IsHeld z source.address source.commit taken.0 taken.1) r.plan c.take-state_there.ensures.held in
    inside_source next.plan.now r.laws next.address next.index (line_entry next.line) next.entry c.args.state.now c.args.map.now r.held r.accept source.address source.commit c.args.carried.now below r.store taken.0 taken.1 held r.body

pub exec_commit-requires-clause-next : goal.exec_commit-requires-clause-next
exec_commit-requires-clause-next c =
    let next = c.args.next in
    let r = c.requires in
    let source = c.args.source in
    let taken = c.take-state_there.result in
    let below = subst (λ z. source.address < count_of z) r.plan source.below in
    let held = subst (λ z. IsHeld z source.address source.commit taken.0 taken.1) r.plan c.take-state_there.ensures.held in
    next_to next.plan.now r.laws next.address next.index (line_entry next.line) next.entry c.args.state.now c.args.map.now r.held r.accept source.address source.commit c.args.carried.now below r.store taken.0 taken.1 held r.body

pub exec_commit-requires-clause-source_version : goal.exec_commit-requires-clause-source_version
exec_commit-requires-clause-source_version c =
    let next = c.args.next in
    let r = c.requires in
    let source = c.args.source in
    let taken = c.take-state_there.result in
    let below = subst (λ z. source.address < count_of z) r.plan source.below in
    let held = subst (λ z. IsHeld z source.address source.commit taken.0 taken.1) r.plan c.take-state_there.ensures.held in
    small_source next.plan.now r.laws next.address next.index (line_entry next.line) next.entry c.args.state.now c.args.map.now r.held r.accept source.address source.commit c.args.carried.now below r.store taken.0 taken.1 held r.body

pub returns : goal.returns
returns c =
    let next = c.args.next in
    let r = c.requires in
    let source = c.args.source in
    let taken = c.take-state_there.result in
    let below = subst (λ z. source.address < count_of z) r.plan source.below in
    let held = subst (λ z. IsHeld z source.address source.commit taken.0 taken.1) r.plan c.take-state_there.ensures.held in
    commits next.plan.now r.laws next.address next.index (line_entry next.line) next.entry c.args.state.now c.args.map.now r.held r.accept source.address source.commit c.args.carried.now below r.store taken.0 taken.1 held r.body
    c.exec_commit.new.self c.replace-empty.new.dest c.in_ok-exec_commit.ensures.target
    (subst (λ m. HasItems m (items_of_both (items_at c.args.map.now) (items_at taken.1))) (sym c.replace-empty.ensures.after)
    (subst (λ m. HasItems c.in_ok-both.both (items_of_both (items_at m) (items_at taken.1))) c.replace-whole.ensures.value c.in_ok-both.ensures))
