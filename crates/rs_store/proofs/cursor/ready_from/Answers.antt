use Rattle.std.proofs.Common.{◌∙◌, ap, sym, length, ◌<◌, arith}
use Rattle.std.specs.List.{find}
use Rattle.rs_store.specs.Stores.{is_ready}
use Rattle.rs_store.specs.Runs.{seen, bare}
use Rattle.rs_store.proofs.Loops.{find_yes}
use Rattle.rs_store.proofs.Frames.{from_cursor, none_found}
use Rattle.rs_store.proofs.cursor.ready_from.Goals as goal

pub returns-then-is_ready-clause-first : goal.returns-then-is_ready-clause-first
returns-then-is_ready-clause-first c =
    let lt : c.loop-at.at < length c.args.ids.now = omega arith in
    ap (find (is_ready c.args.indexed.now (bare (seen c.args.regions.now)))) (sym c.requires.ids)
    ∙ (from_cursor (is_ready c.args.indexed.now (bare (seen c.args.regions.now))) c.args.ids.now c.loop-at.at c.loop-at.invariant
    ∙ find_yes (is_ready c.args.indexed.now (bare (seen c.args.regions.now))) c.args.ids.now c.loop-at.at lt (sym c.if-is_ready.ensures))

pub returns-then-is_ready-clause-others : goal.returns-then-is_ready-clause-others
returns-then-is_ready-clause-others c = λ k h. c.loop-at.invariant k h (omega arith)

pub returns-clause-none : goal.returns-clause-none
returns-clause-none c =
    ap (find (is_ready c.args.indexed.now (bare (seen c.args.regions.now)))) (sym c.requires.ids)
    ∙ none_found (is_ready c.args.indexed.now (bare (seen c.args.regions.now))) c.args.ids.now (λ k h. c.loop-at.invariant k (omega arith) h)
