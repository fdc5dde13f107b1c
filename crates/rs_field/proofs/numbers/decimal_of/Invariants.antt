use Rattle.std.proofs.Common.{◌≡◌, ◌≤◌, drop}
use Rattle.rs_field.specs.Fields.{decimal_of}
use Rattle.rs_field.proofs.DigitLaws.{read_after}
use Rattle.rs_field.proofs.numbers.decimal_of.Given as goal

abbrev pub invariant-loop-b : goal.invariant-loop-b
invariant-loop-b l = record {
  fits : l.n ≤ 9223372036854775809;
  same : read_after l.n (drop l.b-index l.field) ≡ decimal_of l.field;
}
