use Rattle.std.proofs.Common.{◌≡◌, ◌∙◌, sym, ap}
use Rattle.std.specs.Prelude.{◌&&◌, true}
use Rattle.rs_key.specs.Ranges.{is_next_to}
use Rattle.rs_region.specs.Reshapings.{committed}
use Rattle.rs_store.specs.Stores.{as_merged, own, is_paused, is_prepared_for, reshaped, with_region}
use Rattle.rs_store.specs.Runs.{seen}
use Rattle.rs_store.proofs.Verdicts.{answer, joined}
use Rattle.rs_store.proofs.step.merge.Goals as goal

pub returns : goal.returns
returns c =
    let prepared : (is_prepared_for c.args.id c.args.commit c.in-Some.taken.state.mode && is_paused (own c.args.indexed.now c.args.source) c.in-Some.taken.state) ≡ true = sym c.if-not-may_join.ensures in
    let near : is_next_to c.args.made.state.range c.in-Some.taken.state.range ≡ true = sym c.if-not-is_next_to.ensures in
    λ b. joined (seen c.args.regions.now) c.args.indexed.now c.args.id c.args.source c.args.commit c.args.made c.in-Some.taken c.requires.out (sym c.in-Some.ensures.value) prepared near b
    ∙ answer _ (seen c.join.new.regions) _ _ _ _ c.answered.result (c.in_ok-version.ensures.regions ∙ ap (λ z. with_region (with_region z c.args.source (as_merged c.in-Some.taken c.args.id)) c.args.id
    (reshaped c.args.made (committed c.args.made.state c.in-Some.taken.state))) c.take.ensures.gone) c.in_ok-version.ensures.version c.answered.ensures
