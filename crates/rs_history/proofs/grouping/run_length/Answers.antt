use Rattle.std.proofs.Common.{rules, arith, ◌≡◌}
use Rattle.std.specs.Prelude.{true, false}
use Rattle.rs_key.specs.Keys.{same_bytes}
use Rattle.rs_history.proofs.RunLaws.{goes_on, ends_before}
use Rattle.rs_history.proofs.grouping.run_length.Goals as goal

pub loop-place-preserved : goal.loop-place-preserved
loop-place-preserved c =
    let s : same_bytes c.args.first.now.key c.index-writes-place.result.key ≡ true = search rules in
    record {
      within = omega arith;
      so_far = goes_on _ c.args.writes.now c.loop-place.place c.index-writes-place.result (omega arith) c.index-writes-place.is s c.loop-place.invariant.so_far;
    }

pub returns-then-not-has_key_of-clause-value : goal.returns-then-not-has_key_of-clause-value
returns-then-not-has_key_of-clause-value c =
    let s : same_bytes c.args.first.now.key c.index-writes-place.result.key ≡ false = search rules in
    ends_before _ c.args.writes.now c.loop-place.place c.index-writes-place.result (omega arith) c.index-writes-place.is s c.loop-place.invariant.so_far
