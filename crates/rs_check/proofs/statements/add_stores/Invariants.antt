use Rattle.std.proofs.Common.{◌≡◌, take, ◌++◌}
use Rattle.std.specs.List.{flat_map}
use Rattle.rs_check.specs.Statements.{store_stated}
use Rattle.rs_check.proofs.statements.add_stores.Given as goal

abbrev pub invariant-loop-store : goal.invariant-loop-store
invariant-loop-store l = l.all.items ≡ l.fn.all.items ++ flat_map store_stated (take l.store-index l.stores)
