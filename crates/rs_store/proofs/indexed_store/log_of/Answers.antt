use Rattle.std.proofs.Common.{◌∙◌, sym, arith, ◌<◌, length}
use Rattle.rs_store.proofs.LogPlaces.{log_found, log_missing, log_past}
use Rattle.rs_store.proofs.indexed_store.log_of.Goals as goal

pub returns-then-place-logs : goal.returns-then-place-logs
returns-then-place-logs c = log_past c.args.logs.now c.args.region c.place_of-place.result c.place_of-place.ensures.below (omega arith)

pub returns-then-region_at-region : goal.returns-then-region_at-region
returns-then-region_at-region c =
    let within : c.place_of-place.result < length c.args.logs.now = omega (arith, c.if-place-logs.false, c.place_of-place.ensures.within) in
    log_missing c.args.logs.now c.args.region c.place_of-place.result c.requires c.place_of-place.ensures.below c.place_of-place.ensures.from within (λ e. c.if-region_at-region.true (c.region_at.ensures ∙ e))

pub returns : goal.returns
returns c =
    let within : c.place_of-place.result < length c.args.logs.now = omega (arith, c.if-place-logs.false, c.place_of-place.ensures.within) in
    c.log_at.ensures
    ∙ log_found c.args.logs.now c.args.region c.place_of-place.result c.place_of-place.ensures.below within (sym c.region_at.ensures ∙ c.if-region_at-region.false)
