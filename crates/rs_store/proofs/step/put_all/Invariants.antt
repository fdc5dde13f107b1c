use Rattle.std.proofs.Common.{◌≡◌, length}
use Rattle.rs_store.specs.Stores.{with_regions}
use Rattle.rs_store.specs.Runs.{seen}
use Rattle.rs_store.proofs.step.put_all.Given as goal

abbrev pub invariant-loop-state : goal.invariant-loop-state
invariant-loop-state l = with_regions (seen l.regions) l.new l.origin ≡ with_regions (seen l.fn.regions) l.fn.new l.origin

abbrev pub decreases-loop-state : goal.decreases-loop-state
decreases-loop-state l = length l.new
