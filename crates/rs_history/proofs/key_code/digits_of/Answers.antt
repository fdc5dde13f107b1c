use Rattle.std.proofs.Common.{arith}
use Rattle.rs_history.proofs.CodeOrder.{made_fits, makes_more}
use Rattle.rs_history.proofs.key_code.digits_of.Goals as goal

pub overflow_mul-number : goal.overflow_mul-number
overflow_mul-number c =
    let fits = made_fits c.args.key.now c.loop-place.place c.loop-place.number (omega arith) c.loop-place.invariant in omega (arith, fits)

pub overflow_add-number : goal.overflow_add-number
overflow_add-number c =
    let fits = made_fits c.args.key.now c.loop-place.place c.loop-place.number (omega arith) c.loop-place.invariant in omega (arith, fits)

pub loop-place-preserved : goal.loop-place-preserved
loop-place-preserved c =
    rw c.byte_at.ensures.value (makes_more 15 c.args.key.now c.loop-place.place c.loop-place.number (omega arith) (rw c.byte_at.ensures.value at c.byte_at.ensures.bound) c.loop-place.invariant)
