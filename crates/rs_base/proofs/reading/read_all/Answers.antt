use Rattle.std.proofs.Common.{ℕ, arith, length-take}
use Rattle.std.proofs.lemmas.Result.{err_from_is_err_and}
use Rattle.rs_base.proofs.MoveLaws.{Takes-more}
use Rattle.rs_base.proofs.reading.read_all.Goals as goal

pub returns-then-room-n-clause-one_too_many : goal.returns-then-room-n-clause-one_too_many
returns-then-room-n-clause-one_too_many g c = λ _.
    let taken = Takes-more _ _ _ _ _ _ c.pieces.invariant.read c.in_ok-n.ensures.bytes.0 c.in_ok-n.ensures.within in
    (taken.0, omega (arith, c.in_ok-n.ensures.within, c.pieces.all.ok.0, length-take {A = ℕ}), taken.2)

pub returns-then-room-n-clause-err : goal.returns-then-room-n-clause-err
returns-then-room-n-clause-err g c =
    let taken = Takes-more _ _ _ _ _ _ c.pieces.invariant.read c.in_ok-n.ensures.bytes.0 c.in_ok-n.ensures.within in
    (taken.0, omega (arith, c.in_ok-n.ensures.within, c.pieces.all.ok.0, length-take {A = ℕ}), taken.2)

pub returns-in_err-extend_from_slice-clause-err : goal.returns-in_err-extend_from_slice-clause-err
returns-in_err-extend_from_slice-clause-err g c =
    let is = err_from_is_err_and c.from_residual-in_err-extend_from_slice.result c.from_residual-in_err-extend_from_slice.ensures.1 in
    let taken = Takes-more _ _ _ _ _ _ c.pieces.invariant.read c.in_ok-n.ensures.bytes.0 c.in_ok-n.ensures.within in
    rw is.1 (taken.0, omega (arith, c.in_ok-n.ensures.within, c.pieces.all.ok.0, length-take {A = ℕ}), taken.2)
