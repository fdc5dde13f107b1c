use Rattle.std.proofs.Common.{rules}
use Rattle.rs_mailbox.proofs.Steps.{looks_at}
use Rattle.rs_mailbox.proofs.handover.Handover.look.Goals as goal

pub load-requires : goal.load-requires
load-requires g c = (search rules, search rules, looks_at g.T.Named.name g.T.HasCount.count c.args.self.now.table.shared.key _ _ _ c.requires.calm)
