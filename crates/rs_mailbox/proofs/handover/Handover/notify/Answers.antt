use Rattle.std.proofs.Common.{rules}
use Rattle.rs_mailbox.proofs.Steps.{notifies}
use Rattle.rs_mailbox.proofs.handover.Handover.notify.Goals as goal

pub compare_exchange-found-requires : goal.compare_exchange-found-requires
compare_exchange-found-requires g c = (search rules, search rules, notifies g.T.Named.name g.T.HasCount.count c.args.self.now.table.shared.key _ _ _ c.requires.notifying)
