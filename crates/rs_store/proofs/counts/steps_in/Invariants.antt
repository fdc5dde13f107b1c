use Rattle.std.proofs.Common.{◌≡◌, ◌+◌, drop}
use Rattle.std.specs.List.{sum_by}
use Rattle.rs_store.specs.Formed.{steps_of}
use Rattle.rs_store.proofs.counts.steps_in.Given as goal

abbrev pub invariant-loop-entry : goal.invariant-loop-entry
invariant-loop-entry l = l.total + sum_by steps_of (drop l.entry-index l.entries) ≡ sum_by steps_of l.entries
