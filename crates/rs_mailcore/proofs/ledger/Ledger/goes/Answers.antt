use Rattle.std.proofs.Common.{rules, ◌<◌, length, sym, subst}
use Rattle.rs_mailcore.proofs.Kept.{at_below}
use Rattle.rs_mailcore.proofs.ledger.Ledger.goes.Goals as goal

pub bounds-as_mut_slice-thread : goal.bounds-as_mut_slice-thread
bounds-as_mut_slice-thread g c = subst (λ l. c.args.thread < length l) (sym c.as_mut_slice.ensures.value) (at_below c.args.self.now.threads.items c.args.thread c.args.was c.requires)

pub offset_bounds-as_mut_slice-thread : goal.offset_bounds-as_mut_slice-thread
offset_bounds-as_mut_slice-thread g c = let less = bounds-as_mut_slice-thread g c in search rules
