use Rattle.std.proofs.Common.{◌≡◌, ◌++◌}
use Rattle.std.specs.List.{flat_map}
use Rattle.rs_msg.proofs.map.Map.into_writes.Given as goal

abbrev pub invariant-loop-part : goal.invariant-loop-part
invariant-loop-part l = l.writes ++ flat_map (λ p. p.writes) l.part-iterator.rest.items ≡ l.fn.self
