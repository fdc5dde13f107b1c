use Rattle.std.proofs.Common.{◌<◌, ◌∙◌, sym, length, get_or}
use Rattle.rs_check.specs.Namings.{namings}
use Rattle.rs_store.proofs.Rising.{get_or_any}
use Rattle.rs_check.proofs.LawSteps.{reused_next}
use Rattle.rs_check.proofs.reused_ids.reused_id.Goals as goal

pub loop-place-preserved : goal.loop-place-preserved
loop-place-preserved c =
    let lt : c.loop-place.place < length c.args.ids.now = c.loop-place-test.true in
    c.loop-place.invariant ∙ reused_next (namings c.args.boots.now) (namings c.args.names.now) c.args.region c.args.index c.args.ids.now c.loop-place.place
    (get_or c.args.ids.now c.loop-place.place 0) lt (get_or_any c.args.ids.now c.loop-place.place 0 (get_or c.args.ids.now c.loop-place.place 0) lt)
    (sym c.is_reused.ensures ∙ c.if-is_reused.false)
