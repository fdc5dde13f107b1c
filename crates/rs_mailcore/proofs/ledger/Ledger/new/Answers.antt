use Rattle.std.proofs.Common.{rules}
use Rattle.rs_mailcore.proofs.Opening.{opened}
use Rattle.rs_mailcore.proofs.ledger.Ledger.new.Goals as goal

pub returns-clause-sound : goal.returns-clause-sound
returns-clause-sound g c = opened c.args.threads c.requires.1 c.in_ok-threads.threads.items (c.in_ok-threads.ensures.items_if_clones_equal (search rules)) c.new.result.items c.new.ensures.items
