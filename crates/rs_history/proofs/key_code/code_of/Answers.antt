use Rattle.rs_history.proofs.CodeOrder.{are_bytes}
use Rattle.rs_history.proofs.key_code.code_of.Goals as goal

pub returns-clause-bytes : goal.returns-clause-bytes
returns-clause-bytes c = are_bytes c.args.key.now c.type_inv.key
