use Rattle.std.proofs.Common.{◌≡◌, length, take}
use Rattle.rs_field.specs.Digits.{Reads}
use Rattle.rs_field.proofs.hexadecimal.decode_from.Given as goal

abbrev pub invariant-loop-i : goal.invariant-loop-i
invariant-loop-i l = record {
  so_far : Reads l.field (take l.i l.room) l.i;
  sized : length l.room ≡ length l.fn.room;
}
