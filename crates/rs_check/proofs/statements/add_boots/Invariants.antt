use Rattle.std.proofs.Common.{◌≡◌, take, ◌++◌}
use Rattle.std.specs.Prelude.{map}
use Rattle.rs_check.specs.Statements.{of_boot}
use Rattle.rs_check.proofs.statements.add_boots.Given as goal

abbrev pub invariant-loop-boot : goal.invariant-loop-boot
invariant-loop-boot l = l.all.items ≡ l.fn.all.items ++ map (of_boot l.store) (take l.boot-index l.boots)
