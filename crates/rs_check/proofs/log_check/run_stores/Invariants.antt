use Rattle.std.proofs.Common.{◌≡◌, ◌++◌, take, drop}
use Rattle.std.specs.List.{flat_map}
use Rattle.rs_check.specs.Laws.{first_in_stores}
use Rattle.rs_check.specs.Plans.{store_rows}
use Rattle.rs_check.proofs.log_check.run_stores.Given as goal

abbrev pub invariant-loop-store : goal.invariant-loop-store
invariant-loop-store l = record {
  fault : first_in_stores l.stores ≡ first_in_stores (drop l.store-index l.stores);
  rows : l.rows.items ≡ l.fn.rows.items ++ flat_map store_rows (take l.store-index l.stores);
}
