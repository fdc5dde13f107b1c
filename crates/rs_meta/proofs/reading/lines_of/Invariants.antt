use Rattle.std.proofs.Common.{◌≡◌, map, take}
use Rattle.rs_meta.specs.Readings.{line_of}
use Rattle.rs_meta.proofs.reading.lines_of.Given as goal

abbrev pub invariant-loop-ending : goal.invariant-loop-ending
invariant-loop-ending l = l.lines ≡ map (line_of l.plan) (take l.ending-index l.endings)
