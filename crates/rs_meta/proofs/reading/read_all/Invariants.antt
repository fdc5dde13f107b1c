use Rattle.std.specs.Vec.Iter.{into_iter_items}
use Rattle.rs_meta.proofs.ReadSteps.{HasRead}
use Rattle.rs_meta.proofs.reading.read_all.Given as goal

abbrev pub invariant-loop-ending : goal.invariant-loop-ending
invariant-loop-ending l = HasRead l.fn.endings.items (into_iter_items l.ending-iterator) l.replies l.writes
