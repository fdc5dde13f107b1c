use Rattle.std.proofs.Common.{◌≡◌, ◌++◌}
use Rattle.std.specs.List.{filter_map}
use Rattle.std.specs.Vec.Iter.{into_iter_items}
use Rattle.rs_meta.proofs.endings.Endings.into_held.Given as goal

abbrev pub invariant-loop-slot : goal.invariant-loop-slot
invariant-loop-slot l = l.held.items ++ filter_map (λ slot. slot) (into_iter_items l.slot-iterator) ≡ filter_map (λ slot. slot) l.fn.self.slots.items
