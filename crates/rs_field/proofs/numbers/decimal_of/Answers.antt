use Rattle.std.proofs.Common.{sym, inl, inr, arith}
use Rattle.rs_field.proofs.DigitLaws.{decimal_of-is, stops}
use Rattle.rs_field.specs.Fields.{decimal_of}
use Rattle.rs_field.proofs.numbers.decimal_of.Goals.{then-b-lt48-via-then-b-lt48, then-b-lt48-via-else-b-lt48+then-b-gt57, then-b-lt48-via-else-b-lt48+else-b-gt57+then-n}
use Rattle.rs_field.proofs.numbers.decimal_of.Goals as goal

pub loop-b-init : goal.loop-b-init
loop-b-init c = record { fits = omega arith; same = sym (decimal_of-is c.args.field.now) }

pub returns-then-b-lt48 : goal.returns-then-b-lt48
returns-then-b-lt48 c =
    let stop = stops c.args.field.now c.loop-b.n c.loop-b.b-index (decimal_of c.args.field.now) c.loop-b-test.true c.loop-b.invariant.same in
    elim c.then-b-lt48.branch [
      | then-b-lt48-via-then-b-lt48 w ↦ stop (inl w.if-b-lt48.true)
      | then-b-lt48-via-else-b-lt48+then-b-gt57 w ↦ stop (inr (inl w.if-b-gt57.true))
      | then-b-lt48-via-else-b-lt48+else-b-gt57+then-n w ↦ stop (inr (inr (omega (arith, w.if-n.true))))
    ]
