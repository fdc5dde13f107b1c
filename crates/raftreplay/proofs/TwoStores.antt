-- How many stores an outcome has.
use Rattle.std.proofs.Common.{◌≡◌, length}
use Rattle.std.proofs.lemmas.List.{length-map}
use Rattle.rs_entry.specs.declared.input.Input.{Input}
use Rattle.rs_history.specs.Outcomes.{outcome_of, store_outcome}

pub as_many_stores : (x : Input) → length (outcome_of x).stores ≡ length x.stores
unfolding outcome_of
as_many_stores x = length-map x.stores store_outcome
