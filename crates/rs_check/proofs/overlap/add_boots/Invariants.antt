use Rattle.std.proofs.Common.{◌≡◌, take, ◌++◌}
use Rattle.rs_check.proofs.overlap.add_boots.Given as goal

abbrev pub invariant-loop-boot : goal.invariant-loop-boot
invariant-loop-boot l = l.roots.items ≡ l.fn.roots.items ++ take l.boot-index l.boots
