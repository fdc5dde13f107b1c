use Rattle.std.proofs.Common.{◌≡◌, ◌+◌, ◌-◌, eqb, sym, ◌∙◌, ap, take, drop, arith, ℕ}
use Rattle.std.specs.List.{list_any}
use Rattle.rs_field.proofs.CutLaws.{none_more}
use Rattle.rs_field.proofs.cuts.blocks_without.Goals as goal

pub skip-preserved : goal.skip-preserved
skip-preserved c =
    let size : 16 ≡ c.skip.end + 16 - c.skip.end = omega arith in
    let none = ap (λ (n : ℕ). list_any (λ b. eqb b c.args.byte) (take n (drop c.skip.end c.args.bytes.now))) size ∙ sym c.has.ensures ∙ c.if-has.false in
    record { within = omega arith; none = none_more (λ b. eqb b c.args.byte) c.args.bytes.now c.skip.end 16 (omega arith) c.skip.invariant.none none }
