use Rattle.std.proofs.Common.{◌≡◌, drop}
use Rattle.std.specs.Prelude.{None}
use Rattle.std.specs.List.{flat_map}
use Rattle.rs_check.specs.Laws.{least, overlaps_of}
use Rattle.rs_check.proofs.overlap.first_overlap.Given as goal

abbrev pub invariant-loop-root : goal.invariant-loop-root
invariant-loop-root l = least l.best (flat_map (λ a. overlaps_of a l.all) (drop l.root-index l.all)) ≡ least None (flat_map (λ a. overlaps_of a l.all) l.all)
