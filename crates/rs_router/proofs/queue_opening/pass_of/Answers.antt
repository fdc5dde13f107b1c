use Rattle.std.proofs.Common.{rules}
use Rattle.rs_router.proofs.SameIds.{same_id}
use Rattle.rs_router.proofs.queue_opening.pass_of.Goals as goal

pub returns : goal.returns
returns c = let q = c.requires.0.0 in (same_id c.args.queue.now c.args.addresses c.args.pass.web c.args.pass.heap q.0 q.1, c.requires.1, search rules)
