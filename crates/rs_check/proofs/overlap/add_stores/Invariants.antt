use Rattle.std.proofs.Common.{◌≡◌, take, ◌++◌}
use Rattle.std.specs.List.{flat_map}
use Rattle.rs_check.proofs.overlap.add_stores.Given as goal

abbrev pub invariant-loop-store : goal.invariant-loop-store
invariant-loop-store l = l.roots.items ≡ l.fn.roots.items ++ flat_map (λ s. s.regions) (take l.store-index l.stores)
