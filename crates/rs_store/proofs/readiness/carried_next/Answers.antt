use Rattle.std.proofs.Common.{◌∙◌, sym, length, ◌<◌, arith}
use Rattle.rs_entry.specs.Entries.{entry_of}
use Rattle.rs_store.specs.Runs.{seen, bare}
use Rattle.rs_store.proofs.Loops.{carried_no, carried_yes}
use Rattle.rs_store.proofs.readiness.carried_next.Goals as goal

pub returns-in-Some : goal.returns-in-Some
returns-in-Some c =
    let h : c.loop-t.t-index < length c.args.ids.now = omega arith in
    sym (c.loop-t.invariant ∙ carried_yes c.args.indexed.now (bare (seen c.args.regions.now)) c.args.ids.now c.loop-t.t-index c.args.id c.args.index (entry_of c.in-Some.c.now) h (sym c.in-Some.ensures))

pub loop-t-preserved : goal.loop-t-preserved
loop-t-preserved c =
    let h : c.loop-t.t-index < length c.args.ids.now = omega arith in
    c.loop-t.invariant ∙ carried_no c.args.indexed.now (bare (seen c.args.regions.now)) c.args.ids.now c.loop-t.t-index c.args.id c.args.index h (sym c.in_default.ensures)
