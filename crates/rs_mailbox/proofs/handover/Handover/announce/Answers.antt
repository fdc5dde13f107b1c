use Rattle.std.proofs.Common.{rules}
use Rattle.rs_mailbox.proofs.Steps.{announces}
use Rattle.rs_mailbox.proofs.handover.Handover.announce.Goals as goal

pub fetch_add-requires : goal.fetch_add-requires
fetch_add-requires g c = (search rules, search rules, announces g.T.Named.name g.T.HasCount.count c.args.self.now.table.shared.key _ _ _ c.requires.calm c.requires.few)
