use Rattle.std.proofs.Common.{◌≡◌, All, length}
use Rattle.rs_steal.specs.Opening.{IsFresh}
use Rattle.rs_steal.proofs.opening.lonely_passes.Given as goal

abbrev pub invariant-loop-k : goal.invariant-loop-k
invariant-loop-k l = (length l.list.items ≡ l.k) × All (IsFresh l.addresses l.passes 0) l.list.items
