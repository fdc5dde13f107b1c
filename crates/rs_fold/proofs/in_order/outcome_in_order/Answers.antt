use Rattle.std.proofs.Common.{◌≡◌, sym, subst}
use Rattle.rs_entry.specs.declared.outcome.StoreOutcome.{StoreOutcome}
use Rattle.rs_store.specs.Runs.{seen}
use Rattle.rs_fold.specs.Ordered.{Gave, in_order_of}
use Rattle.rs_history.specs.Outcomes.{store_outcome}
use Rattle.rs_fold.proofs.OrderSteps.{order_gives}
use Rattle.rs_fold.proofs.in_order.outcome_in_order.Goals as goal

pub returns : goal.returns
returns c =
    subst (λ (o : StoreOutcome). (in_order_of c.args.store.now c.args.order.now ≡ Gave o) × (o ≡ store_outcome c.args.store.now)) (sym c.in_ok-outcome_of_end.ensures)
    (order_gives c.args.store.now c.requires.scripted c.requires.lawful c.args.order.now (seen c.in_ok-end.end.arrived.regions) c.in_ok-end.end.writes c.in_ok-end.end.replies.items c.in_ok-end.ensures.value.0 c.in_ok-end.ensures.value.1)
