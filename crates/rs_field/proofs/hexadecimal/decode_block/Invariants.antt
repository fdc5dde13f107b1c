use Rattle.std.proofs.Common.{◌≡◌, ◌+◌, length, take}
use Rattle.rs_field.proofs.DigitPairs.{Told}
use Rattle.rs_field.proofs.hexadecimal.decode_block.Given as goal

abbrev pub invariant-loop-offset : goal.invariant-loop-offset
invariant-loop-offset l = record {
  told : Told l.field (take (l.start + l.offset) l.room) (l.start + l.offset) l.greatest;
  sized : length l.room ≡ length l.fn.room;
}
