use Rattle.std.proofs.Common.{arith}
use Rattle.rs_text.proofs.Totals.{write_fits, split_fits}
use Rattle.rs_text.proofs.steps.body.Goals as goal

pub returns-then-is_word-2-clause-operations : goal.returns-then-is_word-2-clause-operations
returns-then-is_word-2-clause-operations c = write_fits c.args.p.now.operations c.args.fields.now c.in_ok-ops.ops c.requires.operations c.in_ok-ops.ensures

pub returns-then-is_word-3-clause-operations : goal.returns-then-is_word-3-clause-operations
returns-then-is_word-3-clause-operations c =
    let h = split_fits c.args.p.now.boots c.args.fields.now c.in_ok-body.body c.requires.boots c.in_ok-body.ensures in
    omega (arith, h.0, c.requires.operations)

pub returns-then-is_word-3-clause-boots : goal.returns-then-is_word-3-clause-boots
returns-then-is_word-3-clause-boots c = (split_fits c.args.p.now.boots c.args.fields.now c.in_ok-body.body c.requires.boots c.in_ok-body.ensures).1
