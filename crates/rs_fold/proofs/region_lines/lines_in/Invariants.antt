use Rattle.std.proofs.Common.{◌≡◌, take}
use Rattle.rs_store.specs.Runs.{seen}
use Rattle.rs_history.specs.Outcomes.{lines_in}
use Rattle.rs_fold.proofs.region_lines.lines_in.Given as goal

abbrev pub invariant-loop-id : goal.invariant-loop-id
invariant-loop-id l = l.lines ≡ lines_in l.store (seen l.regions) (take l.id-index l.ids)
