use Rattle.rs_text.proofs.Totals.{write_fits}
use Rattle.rs_text.proofs.steps.carried_body.Goals as goal

pub returns-then-is_word-2-clause-operations : goal.returns-then-is_word-2-clause-operations
returns-then-is_word-2-clause-operations c = write_fits c.args.operations c.args.fields.now c.in_ok-ops.ops c.requires c.in_ok-ops.ensures
