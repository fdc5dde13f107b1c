use Rattle.rs_history.proofs.CodeOrder.{Makes}
use Rattle.rs_history.proofs.key_code.digits_of.Given as goal

abbrev pub invariant-loop-place : goal.invariant-loop-place
invariant-loop-place l = Makes 15 l.key l.place l.number
