use Rattle.std.proofs.Common.{◌<◌, ◌+◌, ◌∙◌, ap, sym, length, drop, get_or}
use Rattle.rs_check.specs.Namings.{namings, with_namings}
use Rattle.rs_store.proofs.Rising.{get_or_any}
use Rattle.rs_check.proofs.LawSteps.{put_next}
use Rattle.rs_check.proofs.reused_ids.put_all.Goals as goal

pub loop-id-preserved : goal.loop-id-preserved
loop-id-preserved c =
    let lt : c.loop-id.id-index < length c.args.ids.now = c.loop-id-test.true in
    ap (λ f. with_namings f c.args.region c.args.index (drop (c.loop-id.id-index + 1) c.args.ids.now)) c.in_ok-put.ensures
    ∙ (sym (put_next (namings c.loop-id.names) c.args.region c.args.index c.args.ids.now c.loop-id.id-index (get_or c.args.ids.now c.loop-id.id-index 0) lt
    (get_or_any c.args.ids.now c.loop-id.id-index 0 (get_or c.args.ids.now c.loop-id.id-index 0) lt))
    ∙ c.loop-id.invariant)
