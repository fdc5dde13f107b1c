use Rattle.std.proofs.Common.{◌≡◌, take}
use Rattle.rs_store.specs.Runs.{seen}
use Rattle.rs_history.specs.Outcomes.{removed_in}
use Rattle.rs_fold.proofs.region_lines.removed_in.Given as goal

abbrev pub invariant-loop-id : goal.invariant-loop-id
invariant-loop-id l = l.ranges.items ≡ removed_in (seen l.regions) (take l.id-index l.ids)
