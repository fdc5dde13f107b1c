use Rattle.std.proofs.Common.{◌≡◌, ◌<◌, ℕ, true, get_or, Some, None}
use Rattle.rs_table.specs.Tellings.{Keeps, is_among, waiters}
use Rattle.rs_table.proofs.opening.wait_for_prepares.Given as goal

abbrev pub invariant-loop-prepare : goal.invariant-loop-prepare
invariant-loop-prepare l = Keeps (waiters l.fn.waits) (waiters l.waits)
    × ((k : ℕ) (need : ℕ × ℕ) → k < l.prepare-index → get_or l.prepares k None ≡ Some need → is_among l.x (waiters l.waits need.0 need.1) ≡ true)
