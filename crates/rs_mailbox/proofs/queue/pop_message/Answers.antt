use Rattle.rs_mailbox.proofs.Orders.{popping, standing}
use Rattle.rs_mailbox.proofs.queue.pop_message.Goals as goal

pub pop_as-requires-clause-rule : goal.pop_as-requires-clause-rule
pop_as-requires-clause-rule g c = (popping g.M.Named.name _ _ c.requires.queue.1, standing g.M.Named.name _ _)
