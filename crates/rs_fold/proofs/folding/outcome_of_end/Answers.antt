use Rattle.std.proofs.Common.{◌≡◌, ◌∙◌, ap}
use Rattle.rs_store.specs.Runs.{seen}
use Rattle.rs_store.specs.Stores.{ids_of}
use Rattle.rs_history.specs.Histories.{histories_of}
use Rattle.rs_history.specs.Outcomes.{lines_in, removed_in, shown}
use Rattle.rs_history.proofs.SameOutcomes.{outcome_made}
use Rattle.rs_fold.proofs.folding.outcome_of_end.Goals as goal

pub returns : goal.returns
returns c =
    let ids : c.as_slice-ids.result.now ≡ ids_of c.args.store.now = c.as_slice-ids.ensures.value ∙ c.requires.ids in
    let removed : c.in_ok-removed.removed.items ≡ removed_in (seen c.args.end.arrived.regions) (ids_of c.args.store.now) =
    c.in_ok-removed.ensures ∙ ap (removed_in (seen c.args.end.arrived.regions)) ids in
    outcome_made c.args.store.now.id _ (lines_in c.args.store.now (seen c.args.end.arrived.regions) (ids_of c.args.store.now)) c.in_ok-by_region.field-0 c.args.end.replies.items c.in_ok-pairs_of.field-0 c.in_ok-histories.histories (histories_of (shown (removed_in (seen c.args.end.arrived.regions) (ids_of c.args.store.now)) c.args.end.writes))
    (c.lines.view_is ∙ (c.in_ok-lines.ensures ∙ ap (lines_in c.args.store.now (seen c.args.end.arrived.regions)) ids))
    c.in_ok-by_region.ensures c.in_ok-pairs_of.ensures
    (c.in_ok-histories.ensures ∙ ap histories_of (c.in_ok-writes.ensures ∙ ap (λ ranges. shown ranges c.args.end.writes) (c.as_slice.ensures.value ∙ removed)))
