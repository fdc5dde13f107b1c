use Rattle.std.proofs.Common.{◌<◌, ◌∙◌, length, take, get_or, ◌∷◌, []}
use Rattle.rs_store.specs.Runs.{seen}
use Rattle.rs_check.specs.Plans.{rows_in}
use Rattle.rs_check.proofs.PlanLaws.{rows_more, added}
use Rattle.rs_check.proofs.rows.add_rows.Goals as goal

pub loop-id-preserved : goal.loop-id-preserved
loop-id-preserved c =
    let lt : c.loop-id.id-index < length c.args.ids.now = c.loop-id-test.true in
    c.in_ok-add_row.ensures
    ∙ added c.args.rows.now.items (rows_in c.args.indexed.now (seen c.args.regions.now) (take c.loop-id.id-index c.args.ids.now)) c.loop-id.rows.items
    (rows_in c.args.indexed.now (seen c.args.regions.now) (get_or c.args.ids.now c.loop-id.id-index 0 ∷ [])) _ c.loop-id.invariant
    (rows_more c.args.indexed.now (seen c.args.regions.now) c.args.ids.now c.loop-id.id-index lt)
