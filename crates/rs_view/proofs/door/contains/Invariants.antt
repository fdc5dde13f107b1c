use Rattle.std.proofs.Common.{◌<◌, ◌≤◌, ℕ}
use Rattle.rs_table.specs.Tellings.{numbers}
use Rattle.rs_view.proofs.door.contains.Given as goal

abbrev pub invariant-loop-i : goal.invariant-loop-i
invariant-loop-i l = (j : ℕ) → j < l.i → numbers l.less j ≤ numbers l.more j
