use Rattle.std.proofs.Common.{◌≡◌, drop}
use Rattle.rs_store.specs.Ends.{first_of, waits}
use Rattle.rs_store.specs.Runs.{seen, bare}
use Rattle.rs_store.proofs.store_run.first_waits.Given as goal

abbrev pub invariant-loop-id : goal.invariant-loop-id
invariant-loop-id l = first_of (waits l.indexed (bare (seen l.regions))) l.ids ≡ first_of (waits l.indexed (bare (seen l.regions))) (drop l.id-index l.ids)
