use Rattle.std.proofs.Common.{◌≡◌, map}
use Rattle.rs_bin.proofs.bodies.ids_and_keys.Given as goal

abbrev pub invariant-loop-id : goal.invariant-loop-id
invariant-loop-id l = record {
  ids : l.ids ≡ map (λ p. p.0) l.yielded;
  keys : l.keys ≡ map (λ p. p.1) l.yielded;
}
