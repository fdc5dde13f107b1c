use Rattle.std.proofs.Common.{sym}
use Rattle.rs_part.proofs.Members.{among_get}
use Rattle.rs_check.proofs.entry_index.numbered.Goals as goal

pub returns : goal.returns
returns c = (among_get c.args.carried.now c.saturating_sub.result c.in-Some.one.now (sym c.in-Some.ensures), c.if-one-index.false)
