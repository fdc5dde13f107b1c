use Rattle.std.proofs.Common.{◌≡◌, drop}
use Rattle.rs_check.specs.Tables.{owner}
use Rattle.rs_check.proofs.region_table.owner.Given as goal

abbrev pub invariant-loop-state : goal.invariant-loop-state
invariant-loop-state l = owner l.rows l.key ≡ owner (drop l.state-index l.rows) l.key
