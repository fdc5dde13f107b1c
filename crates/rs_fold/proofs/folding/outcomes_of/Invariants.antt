use Rattle.std.proofs.Common.{◌≡◌, map, take}
use Rattle.rs_history.specs.Outcomes.{store_outcome}
use Rattle.rs_fold.proofs.folding.outcomes_of.Given as goal

abbrev pub invariant-loop-store : goal.invariant-loop-store
invariant-loop-store l = l.outcomes ≡ map store_outcome (take l.store-index l.stores)
