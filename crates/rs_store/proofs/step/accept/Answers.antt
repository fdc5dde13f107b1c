use Rattle.std.proofs.Common.{◌∙◌, ◌+◌, ap}
use Rattle.rs_region.specs.Actions.{body_for}
use Rattle.rs_region.specs.Reshapings.{split_kept, split_new}
use Rattle.rs_store.specs.declared.regions.Origin.TheVariants as origins
use Rattle.rs_store.specs.Stores.{Went, accept, reshaped, with_region, with_regions}
use Rattle.rs_store.specs.Runs.{bare, seen}
use Rattle.rs_store.specs.Walks.{done}
use Rattle.rs_store.proofs.Updates.{put_over}
use Rattle.rs_store.proofs.Verdicts.{answer, turns}
use Rattle.rs_store.proofs.step.accept.Goals as goal

pub returns-in_ok-version-in-Splits : goal.returns-in_ok-version-in-Splits
returns-in_ok-version-in-Splits c =
    let r = c.args.made in
    let f = seen c.args.regions.now in
    let kept = split_kept r.state c.in-Splits.side c.in-Splits.keys.now in
    ap (λ a. accept c.args.indexed.now (bare (with_region f c.args.id r)) c.args.id r (body_for a)) c.in-Splits.is
    ∙ (ap (λ g. Went (done (with_regions g (split_new r.state c.in-Splits.side c.in-Splits.ids.now c.in-Splits.keys.now) (origins.Split c.args.id (r.applied + 1))) c.args.id (r.applied + 1) kept.epoch.version))
    (put_over f c.args.id r (reshaped r kept))
    ∙ answer _ (seen c.split.new.regions) _ _ _ _ c.answered.result c.in_ok-version-in-Splits.ensures.regions c.in_ok-version-in-Splits.ensures.version c.answered.ensures)

pub returns-in_ok-version-in-Turns : goal.returns-in_ok-version-in-Turns
returns-in_ok-version-in-Turns c =
    let f = seen c.args.regions.now in
    ap (λ a. accept c.args.indexed.now (bare (with_region f c.args.id c.args.made)) c.args.id c.args.made (body_for a)) c.in-Turns.is
    ∙ (turns c.args.indexed.now f c.args.id c.args.made c.in-Turns.by
    ∙ answer _ (seen c.turn.new.regions) _ _ _ _ c.answered-in-Turns.result c.in_ok-version-in-Turns.ensures.regions c.in_ok-version-in-Turns.ensures.version c.answered-in-Turns.ensures)
