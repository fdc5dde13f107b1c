use Rattle.std.proofs.Common.{◌<◌, ◌+◌, ◌∙◌, ap, length, drop, ◌≡◌, subst}
use Rattle.std.specs.List.{flat_map}
use Rattle.rs_entry.specs.declared.input.Boot.{Boot}
use Rattle.rs_check.specs.Laws.{least, overlaps_of}
use Rattle.rs_store.proofs.Folds.{fold_flat}
use Rattle.rs_check.proofs.LawSteps.{least_more}
use Rattle.rs_check.proofs.overlap.first_overlap.Goals as goal

pub loop-root-preserved : goal.loop-root-preserved
loop-root-preserved c =
    let lt : c.loop-root.root-index < length c.args.all.now = c.loop-root-test.true in
    let put : c.least_with-best.result ≡ least c.loop-root.best (overlaps_of c.root-item.result c.args.all.now) =
    subst (λ (b : Boot). c.least_with-best.result ≡ least c.loop-root.best (overlaps_of b c.args.all.now)) c.root.view_is c.least_with-best.ensures in
    ap (λ d. least d (flat_map (λ (a : Boot). overlaps_of a c.args.all.now) (drop (c.loop-root.root-index + 1) c.args.all.now))) put
    ∙ (fold_flat least least_more (λ (a : Boot). overlaps_of a c.args.all.now) c.loop-root.best c.args.all.now c.loop-root.root-index c.root-item.result lt c.root-item.is
    ∙ c.loop-root.invariant)
