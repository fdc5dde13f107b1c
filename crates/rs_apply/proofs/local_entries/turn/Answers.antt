use Rattle.rs_store.specs.Runs.{line_entry}
use Rattle.rs_apply.proofs.Accepting.{turns}
use Rattle.rs_apply.proofs.local_entries.turn.Goals as goal

pub returns : goal.returns
returns c =
    let next = c.args.next in
    let r = c.requires in
    turns next.plan.now r.laws next.address next.index (line_entry next.line) next.entry c.args.state.now c.args.map.now r.held r.accept c.args.turn c.turn.new.self r.body c.in_ok-turn.ensures.ok
