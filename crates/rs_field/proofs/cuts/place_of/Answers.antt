use Rattle.std.proofs.Common.{eqb, sym, arith, eq-eqb}
use Rattle.std.proofs.lemmas.List.Sums.{position_or_len_is}
use Rattle.rs_field.proofs.cuts.place_of.Goals as goal

pub returns-then-bytes-i-clause-place : goal.returns-then-bytes-i-clause-place
returns-then-bytes-i-clause-place c =
    sym (position_or_len_is (λ b. eqb b c.args.byte) c.args.bytes.now c.loop-i.i 0 (omega arith) c.loop-i.invariant (λ _. eq-eqb _ _ c.if-bytes-i.true))

pub returns-clause-place : goal.returns-clause-place
returns-clause-place c =
    omega (arith, position_or_len_is (λ b. eqb b c.args.byte) c.args.bytes.now c.loop-i.i 0 (omega arith) c.loop-i.invariant (λ h. absurd (omega (arith, h))))
