use Rattle.std.proofs.Common.{◌≡◌, take}
use Rattle.rs_rows.proofs.copies.RowsTryClone.try_clone.Given as goal

abbrev pub invariant-loop-row : goal.invariant-loop-row
invariant-loop-row g l = l.copy ≡ take l.row-index l.row-items
