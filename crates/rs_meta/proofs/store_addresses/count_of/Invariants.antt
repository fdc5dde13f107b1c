use Rattle.std.proofs.Common.{◌≡◌, ◌==◌, take}
use Rattle.std.specs.List.{count_by}
use Rattle.rs_check.specs.Plans.{rows_of}
use Rattle.rs_meta.proofs.store_addresses.count_of.Given as goal

abbrev pub invariant-loop-address : goal.invariant-loop-address
invariant-loop-address l = l.count ≡ count_by (λ row. row.store == l.id) (take l.address (rows_of l.plan))
