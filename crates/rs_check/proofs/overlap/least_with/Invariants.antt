use Rattle.std.proofs.Common.{◌≡◌, drop}
use Rattle.rs_check.specs.Laws.{least, overlaps_of}
use Rattle.rs_check.proofs.overlap.least_with.Given as goal

abbrev pub invariant-loop-root : goal.invariant-loop-root
invariant-loop-root l = least l.best (overlaps_of l.a (drop l.root-index l.all)) ≡ least l.fn.best (overlaps_of l.a l.all)
