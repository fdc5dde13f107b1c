use Rattle.std.proofs.Common.{◌<◌, length, drop, arith, length-drop}
use Rattle.std.proofs.Math.Seq.{take-add}
use Rattle.std.proofs.KnownBytes.{Appends-trans}
use Rattle.rs_base.proofs.writing.write_all.Goals as goal

pub loop-at-preserved : goal.loop-at-preserved
loop-at-preserved g c =
    let bytes = c.args.bytes.now in
    let moved = rw c.split_at.ensures.back at c.in_ok-at.ensures.bytes in
    let fits = rw c.split_at.ensures.back at c.in_ok-at.ensures.within in
    let some = rw c.split_at.ensures.back at c.in_ok-at.ensures.some in
    let left : 0 < length (drop c.loop-at.at bytes) = omega (arith, length-drop c.loop-at.at bytes) in
    let more : 0 < c.in_ok-at.field-0 = some left in
    record {
      written = rw take-add (Appends-trans _ _ _ _ _ c.loop-at.invariant.written moved);
      within = omega (arith, length-drop c.loop-at.at bytes);
      kept_faults = omega arith;
      unmoved = λ none. absurd (omega arith);
      sure = λ room. let before = c.loop-at.invariant.sure room in let now = c.in_ok-at.ensures.sure (omega arith) in omega arith;
    }
