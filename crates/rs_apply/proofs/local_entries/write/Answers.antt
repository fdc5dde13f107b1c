use Rattle.std.proofs.Common.{◌+◌, map, subst}
use Rattle.rs_store.specs.Runs.{line_entry}
use Rattle.rs_store.specs.Stores.{wrote}
use Rattle.rs_msg.specs.Maps.{HasItems, items_at, with_writes}
use Rattle.rs_apply.proofs.Accepting.{writes}
use Rattle.rs_apply.proofs.local_entries.write.Goals as goal

pub returns : goal.returns
returns c =
    let next = c.args.next in
    let r = c.requires in
    writes next.plan.now r.laws next.address next.index (line_entry next.line) next.entry c.args.state.now c.args.map.now r.held r.accept c.args.ops.now c.note.new.self r.body
    (subst (λ ops. HasItems c.note.new.self (with_writes (items_at c.args.map.now) (map (wrote c.args.state.now.region (next.index + 1)) ops))) c.as_slice.ensures c.in_ok-note.ensures.ok)
