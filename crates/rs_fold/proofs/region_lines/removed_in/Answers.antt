use Rattle.std.proofs.Common.{◌∙◌, sym, ap, ◌++◌, ◌∷◌, []}
use Rattle.rs_store.specs.Runs.{seen}
use Rattle.rs_history.specs.Outcomes.{removed_range}
use Rattle.rs_fold.proofs.MadeLists.{none_more, some_more}
use Rattle.rs_fold.proofs.region_lines.removed_in.Goals as goal

pub loop-id-preserved-in_default : goal.loop-id-preserved-in_default
loop-id-preserved-in_default c =
    c.loop-id.invariant
    ∙ sym (none_more (λ id. removed_range (seen c.args.regions.now id)) c.args.ids.now c.loop-id.id-index c.loop-id-test.true (sym (c.in_ok-range.ensures ∙ ap removed_range c.get.ensures) ∙ c.in_default.is))

pub loop-id-preserved : goal.loop-id-preserved
loop-id-preserved c =
    c.in_ok-push.ensures.items
    ∙ (ap (λ xs. xs ++ c.in-Some.range ∷ []) c.loop-id.invariant
    ∙ sym (some_more (λ id. removed_range (seen c.args.regions.now id)) c.args.ids.now c.loop-id.id-index c.loop-id-test.true c.in-Some.range (sym (c.in_ok-range.ensures ∙ ap removed_range c.get.ensures) ∙ c.in-Some.is)))
