use Rattle.std.proofs.Common.{◌≡◌, ◌++◌, take}
use Rattle.rs_store.specs.Runs.{seen}
use Rattle.rs_check.specs.Plans.{rows_in}
use Rattle.rs_check.proofs.rows.add_rows.Given as goal

abbrev pub invariant-loop-id : goal.invariant-loop-id
invariant-loop-id l = l.rows.items ≡ l.fn.rows.items ++ rows_in l.indexed (seen l.regions) (take l.id-index l.ids)
