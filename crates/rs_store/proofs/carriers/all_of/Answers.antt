use Rattle.std.proofs.Common.{◌≡◌, ◌∙◌, sym, ap, subst, length, ◌<◌, arith, get_or}
use Rattle.std.specs.Prelude.{Some}
use Rattle.rs_store.specs.Stores.{Merge, stands}
use Rattle.rs_store.specs.Runs.{seen, bare}
use Rattle.rs_store.specs.Carriers.{BySource, with_carrier}
use Rattle.rs_store.proofs.CarrierSteps.{nobody_more, one_more}
use Rattle.rs_store.proofs.carriers.all_of.Goals as goal

pub loop-id-preserved-in_default : goal.loop-id-preserved-in_default
loop-id-preserved-in_default c =
    let h : c.loop-id.id-index < length c.args.ids.now = omega arith in
    c.loop-id.invariant ∙ sym (nobody_more c.args.indexed.now (bare (seen c.args.regions.now)) c.args.ids.now c.loop-id.id-index h (sym c.in_default.ensures))

pub loop-id-preserved : goal.loop-id-preserved
loop-id-preserved c =
    let h : c.loop-id.id-index < length c.args.ids.now = omega arith in
    let m : Merge = record { source = c.merge.inside.source; commit = c.merge.inside.commit; carried = c.merge.inside.carried.now } in
    let some : stands c.args.indexed.now (bare (seen c.args.regions.now)) (get_or c.args.ids.now c.loop-id.id-index 0) ≡ Some m =
    subst (λ (x : Merge). stands c.args.indexed.now (bare (seen c.args.regions.now)) (get_or c.args.ids.now c.loop-id.id-index 0) ≡ Some x) (sym c.merge.view_is) (sym c.in-Some.ensures) in
    c.in_ok-add.ensures
    ∙ (ap (λ (f : BySource). with_carrier f c.merge.inside.source (get_or c.args.ids.now c.loop-id.id-index 0)) c.loop-id.invariant
    ∙ sym (one_more c.args.indexed.now (bare (seen c.args.regions.now)) c.args.ids.now c.loop-id.id-index m h some))
