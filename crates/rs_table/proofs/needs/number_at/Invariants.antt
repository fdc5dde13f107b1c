use Rattle.std.proofs.Common.{◌≤◌, length, ◌-◌}
use Rattle.rs_check.specs.Plans.{reshapings_of}
use Rattle.rs_check.specs.Values.{reshaped_by}
use Rattle.rs_table.proofs.needs.number_at.Given as goal

abbrev pub invariant-search : goal.invariant-search
invariant-search l = (l.low ≤ reshaped_by l.plan l.a l.index) × (reshaped_by l.plan l.a l.index ≤ l.high) × (l.high ≤ length (reshapings_of l.plan l.a))

abbrev pub decreases-search : goal.decreases-search
decreases-search l = l.high - l.low
