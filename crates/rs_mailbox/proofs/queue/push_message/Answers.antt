use Rattle.rs_mailbox.proofs.Orders.{pushing}
use Rattle.rs_mailbox.proofs.queue.push_message.Goals as goal

pub push_as-requires-clause-rule : goal.push_as-requires-clause-rule
push_as-requires-clause-rule g c = λ n. pushing g.M.Named.name n _ _ _ c.requires.name c.requires.few
