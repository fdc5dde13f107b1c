use Rattle.std.proofs.Common.{◌≡◌, ◌+◌, drop}
use Rattle.std.specs.List.{sum_by}
use Rattle.rs_store.specs.Formed.{steps_in}
use Rattle.rs_store.proofs.counts.entries_in.Given as goal

abbrev pub invariant-loop-log : goal.invariant-loop-log
invariant-loop-log l = l.total + sum_by steps_in (drop l.log-index l.store.logs) ≡ sum_by steps_in l.store.logs
