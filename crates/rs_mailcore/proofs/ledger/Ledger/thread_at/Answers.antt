use Rattle.std.proofs.Common.{rules, ◌≡◌, ◌<◌, length, slice_index_or, sym, subst}
use Rattle.rs_mailcore.specs.declared.thread.Thread.{Thread}
use Rattle.rs_mailcore.specs.declared.thread.Phase.TheVariants.{Calm}
use mathlib.Core.Option.{some}
use lib.ListN.{get_elem?}
use Rattle.rs_mailcore.proofs.Kept.{at_below, at_index}
use Rattle.rs_mailcore.proofs.ledger.Ledger.thread_at.Goals as goal

pub bounds-as_slice-thread : goal.bounds-as_slice-thread
bounds-as_slice-thread g c = subst (λ l. c.args.thread < length l) (sym c.as_slice.ensures.value) (at_below c.args.self.now.threads.items c.args.thread c.requires.0 c.requires.1)

pub offset_bounds-as_slice-thread : goal.offset_bounds-as_slice-thread
offset_bounds-as_slice-thread g c = let less = bounds-as_slice-thread g c in search rules

pub returns : goal.returns
returns g c = let d : Thread = record { stance = record { phase = Calm; announced = 0; remembered = 0 }; pushed = 0; taken = 0 } in
    subst (λ l. get_elem? c.args.self.now.threads.items c.args.thread ≡ some (slice_index_or l c.args.thread d)) (sym c.as_slice.ensures.value) (at_index c.args.self.now.threads.items c.args.thread d (at_below c.args.self.now.threads.items c.args.thread c.requires.0 c.requires.1))
