use Rattle.std.proofs.Common.{◌≡◌, take, ◌++◌}
use Rattle.std.specs.Prelude.{map}
use Rattle.rs_check.specs.Statements.{of_carried}
use Rattle.rs_check.proofs.statements.add_carried.Given as goal

abbrev pub invariant-loop-one : goal.invariant-loop-one
invariant-loop-one l = l.all.items ≡ l.fn.all.items ++ map (of_carried l.store l.source) (take l.one-index l.carried)
