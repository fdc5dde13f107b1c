use Rattle.std.proofs.Common.{◌≡◌, sym, subst}
use Rattle.std.specs.Prelude.{IfOk}
use Rattle.rs_entry.specs.declared.outcome.StoreOutcome.{StoreOutcome}
use Rattle.rs_store.specs.Runs.{seen}
use Rattle.rs_fold.proofs.EndLaws.{outcome_is}
use Rattle.rs_fold.proofs.folding.store_outcome.Goals as goal

pub returns : goal.returns
returns c =
    subst (λ (wanted : StoreOutcome). IfOk c.outcome_of_end.result (λ o. o ≡ wanted))
    (sym (outcome_is c.args.store.now (seen c.in_ok-end.end.arrived.regions) c.in_ok-end.end.writes c.in_ok-end.end.replies.items c.in_ok-end.ensures.value)) c.outcome_of_end.ensures
