use Rattle.std.proofs.Common.{◌≡◌, take}
use Rattle.rs_part.specs.Telling.{boot_states}
use Rattle.rs_table.proofs.opening.opening_table.Given as goal

abbrev pub invariant-loop-boot : goal.invariant-loop-boot
invariant-loop-boot l = l.rows ≡ boot_states (take l.boot-index l.boot-items)
