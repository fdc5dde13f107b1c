use Rattle.std.proofs.Common.{◌≡◌, ◌≤◌, ◌+◌, length}
use Rattle.rs_field.specs.Lines.{parts_of}
use Rattle.rs_text.specs.Steps.{Counts, start}
use Rattle.rs_text.specs.Reading.{read_from}
use Rattle.rs_text.proofs.reading.lines.Given as goal

abbrev pub invariant-loop-this : goal.invariant-loop-this
invariant-loop-this l = record {
  counts : Counts l.p;
  number : l.line + length l.rest ≤ length l.text + 2;
  same : read_from l.line l.p (parts_of l.rest) ≡ read_from 2 (start l.version) (parts_of l.text);
}

abbrev pub decreases-loop-this : goal.decreases-loop-this
decreases-loop-this l = length l.rest
