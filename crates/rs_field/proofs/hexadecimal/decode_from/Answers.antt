use Rattle.std.proofs.Common.{◌∙◌, ◌+◌, ◌*◌, ap, Ok, arith, rules, take}
use Rattle.std.proofs.lemmas.List.{take_all, take_more_set}
use Rattle.rs_field.proofs.DigitPairs.{goes_on, is_done, stops_first, stops_second, even}
use Rattle.rs_field.proofs.hexadecimal.decode_from.Goals as goal

pub returns-then-high-gt15 : goal.returns-then-high-gt15
returns-then-high-gt15 c =
    rw (even c.args.field.now (omega arith)) (stops_first c.args.field.now (take c.loop-i.i c.loop-i.room) c.loop-i.i c.digit-high.result (omega arith) c.digit-high.ensures (omega arith) c.loop-i.invariant.so_far)

pub returns-then-low-gt15 : goal.returns-then-low-gt15
returns-then-low-gt15 c =
    rw (even c.args.field.now (omega arith)) (stops_second c.args.field.now (take c.loop-i.i c.loop-i.room) c.loop-i.i c.digit-high.result c.digit-low.result (omega arith) c.digit-high.ensures c.digit-low.ensures (omega arith) (omega arith) c.loop-i.invariant.so_far)

pub loop-i-preserved : goal.loop-i-preserved
loop-i-preserved c = record {
  so_far = rw (take_more_set c.loop-i.room c.loop-i.i (c.digit-high.result * 16 + c.digit-low.result) (omega arith)) (goes_on c.args.field.now (take c.loop-i.i c.loop-i.room) c.loop-i.i c.digit-high.result c.digit-low.result (omega arith) c.digit-high.ensures c.digit-low.ensures (omega arith) (omega arith) c.loop-i.invariant.so_far);
  sized = search rules;
}

pub returns : goal.returns
returns c =
    even c.args.field.now (omega arith) ∙ is_done c.args.field.now (take c.loop-i.i c.loop-i.room) c.loop-i.i (omega arith) c.loop-i.invariant.so_far ∙ ap Ok (take_all c.loop-i.i c.loop-i.room (omega arith))
