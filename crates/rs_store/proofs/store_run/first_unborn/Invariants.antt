use Rattle.std.proofs.Common.{◌≡◌, drop}
use Rattle.rs_store.specs.Ends.{first_unborn}
use Rattle.rs_store.specs.Runs.{seen, bare}
use Rattle.rs_store.proofs.store_run.first_unborn.Given as goal

abbrev pub invariant-loop-log : goal.invariant-loop-log
invariant-loop-log l = first_unborn (bare (seen l.regions)) l.logs ≡ first_unborn (bare (seen l.regions)) (drop l.log-index l.logs)
