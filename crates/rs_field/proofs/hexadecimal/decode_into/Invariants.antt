use Rattle.std.proofs.Common.{◌≡◌, ◌-◌, ◌≤◌, length, take}
use Rattle.rs_field.specs.Digits.{Reads}
use Rattle.rs_field.proofs.hexadecimal.decode_into.Given as goal

abbrev pub invariant-loop-room : goal.invariant-loop-room
invariant-loop-room l = record {
  so_far : Reads l.field (take l.done l.room) l.done;
  sized : length l.room ≡ length l.fn.room;
  within : l.done ≤ length l.room;
}

abbrev pub decreases-loop-room : goal.decreases-loop-room
decreases-loop-room l = length l.room - l.done
