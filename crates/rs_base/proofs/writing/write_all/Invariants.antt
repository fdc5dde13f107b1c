use Rattle.std.proofs.Common.{◌≡◌, ◌≤◌, ◌+◌, ◌-◌, length, take}
use Rattle.std.specs.Io.KnownBytes.{Appends}
use Rattle.rs_base.proofs.writing.write_all.Given as goal

abbrev pub invariant-loop-at : goal.invariant-loop-at
invariant-loop-at g l = record {
  written : Appends (g.K.Sink.taken l.fn.sink) (g.K.Sink.taken l.sink) (take l.at l.bytes);
  within : l.at ≤ length l.bytes;
  kept_faults : g.K.Sink.faults l.fn.sink ≤ g.K.Sink.faults l.sink;
  unmoved : l.at ≡ 0 → l.sink ≡ l.fn.sink;
  sure : length l.bytes ≤ g.K.Sink.sure_room l.fn.sink → g.K.Sink.sure_room l.fn.sink ≤ g.K.Sink.sure_room l.sink + l.at;
}

abbrev pub decreases-loop-at : goal.decreases-loop-at
decreases-loop-at g l = length l.bytes - l.at
