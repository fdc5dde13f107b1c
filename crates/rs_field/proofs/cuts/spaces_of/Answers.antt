use Rattle.std.proofs.Common.{eqb, not, sym, ap, arith}
use Rattle.std.proofs.lemmas.List.Sums.{position_or_len_is}
use Rattle.std.proofs.lemmas.Bool.{ne_eqb}
use Rattle.rs_field.proofs.cuts.spaces_of.Goals as goal

pub returns-then-b-ne32-clause-place : goal.returns-then-b-ne32-clause-place
returns-then-b-ne32-clause-place c =
    sym (position_or_len_is (λ b. not (eqb b 32)) c.args.bytes.now c.loop-i.i 0 (omega arith) c.loop-i.invariant (λ _. ap not (ne_eqb _ _ c.if-b-ne32.true)))

pub returns-clause-place : goal.returns-clause-place
returns-clause-place c =
    omega (arith, position_or_len_is (λ b. not (eqb b 32)) c.args.bytes.now c.loop-i.i 0 (omega arith) c.loop-i.invariant (λ h. absurd (omega (arith, h))))
