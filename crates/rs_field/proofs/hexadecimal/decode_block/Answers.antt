use Rattle.std.proofs.Common.{rules, ◌≡◌, ◌*◌, ◌+◌, ◌%◌, ℕ, arith, take}
use Rattle.std.proofs.lemmas.List.{take_more_set}
use Rattle.rs_field.proofs.DigitPairs.{tells_on}
use Rattle.rs_field.proofs.hexadecimal.decode_block.Goals as goal

pub loop-offset-preserved : goal.loop-offset-preserved
loop-offset-preserved c =
    let i : ℕ = c.args.start + c.loop-offset.offset in
    let next : c.args.start + (c.loop-offset.offset + 1) ≡ i + 1 = omega arith in
    let value : ℕ = c.compared-high.result % 16 * 16 + c.compared-low.result % 16 in
    record {
      told = rw (next, take_more_set c.loop-offset.room i value (omega arith))
          (tells_on c.args.field.now (take i c.loop-offset.room) i c.compared-high.result c.compared-low.result c.loop-offset.greatest c.greatest_of-greatest.result (omega arith) c.compared-high.ensures c.compared-low.ensures c.greatest_of-greatest.ensures.above c.greatest_of-greatest.ensures.least c.loop-offset.invariant.told);
      sized = search rules;
    }
