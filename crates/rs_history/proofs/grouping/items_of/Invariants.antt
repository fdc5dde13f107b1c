use Rattle.std.proofs.Common.{◌≡◌, map, take}
use Rattle.rs_part.specs.Items.{item_of}
use Rattle.rs_history.proofs.grouping.items_of.Given as goal

abbrev pub invariant-loop-write : goal.invariant-loop-write
invariant-loop-write l = l.items ≡ map item_of (take l.write-index l.writes)
