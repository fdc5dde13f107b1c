use Rattle.std.proofs.Common.{sym, subst, List}
use Rattle.rs_entry.specs.declared.input.Input.{Input}
use Rattle.rs_entry.specs.declared.input.Store.{Store}
use Rattle.rs_entry.specs.WellFormed.{WellFormed}
use Rattle.rs_store.specs.Formed.{IsFormedStores}
use Rattle.rs_fold.proofs.Lawful.{formed_stores}
use Rattle.rs_fold.proofs.folding.fold.Goals as goal

pub outcomes_of-requires-clause-formed : goal.outcomes_of-requires-clause-formed
outcomes_of-requires-clause-formed c =
    subst (λ (stores : List Store). IsFormedStores stores) (sym c.as_slice.ensures)
    (formed_stores c.input-input.result.now (subst (λ (input : Input). WellFormed input) (sym c.input-input.ensures.value) c.input-input.ensures.formed))
