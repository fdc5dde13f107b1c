use Rattle.std.proofs.Common.{◌∙◌, sym, length, ◌<◌, arith}
use Rattle.rs_store.specs.Ends.{waits}
use Rattle.rs_store.specs.Runs.{seen, bare}
use Rattle.rs_store.proofs.Loops.{first_no, first_yes}
use Rattle.rs_store.proofs.store_run.first_waits.Goals as goal

pub loop-id-preserved : goal.loop-id-preserved
loop-id-preserved c =
    let h : c.loop-id.id-index < length c.args.ids.now = omega arith in
    c.loop-id.invariant ∙ first_no (waits c.args.indexed.now (bare (seen c.args.regions.now))) c.args.ids.now c.loop-id.id-index h (sym c.in_default.ensures)

pub returns-in-Some : goal.returns-in-Some
returns-in-Some c =
    let h : c.loop-id.id-index < length c.args.ids.now = omega arith in
    sym (c.loop-id.invariant ∙ first_yes (waits c.args.indexed.now (bare (seen c.args.regions.now))) c.args.ids.now c.loop-id.id-index c.in-Some.fault h (sym c.in-Some.ensures))
