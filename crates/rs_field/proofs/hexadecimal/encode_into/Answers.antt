use Rattle.std.proofs.Common.{arith, rules}
use Rattle.hex.specs.Hex.{lower_digits}
use Rattle.hex.proofs.Pairs.{encode_step, encode_done}
use Rattle.rs_field.proofs.hexadecimal.encode_into.Goals as goal

pub loop-i-preserved : goal.loop-i-preserved
loop-i-preserved c = record {
  so_far = encode_step lower_digits c.args.bytes.now c.loop-i.room c.loop-i.i _ _ (omega arith) (omega arith) c.lower_digit.ensures c.lower_digit-in-loop-i.ensures c.loop-i.invariant.so_far;
  sized = search rules;
}

pub returns : goal.returns
returns c = encode_done lower_digits c.args.bytes.now c.loop-i.room c.loop-i.i (omega arith) (omega arith) c.loop-i.invariant.so_far
