use Rattle.std.proofs.Common.{◌≡◌}
use Rattle.crossbeam_deque.specs.Handles.{view, stealer_deque}
use Rattle.rs_steal.proofs.stealing.steal.Given as goal

abbrev pub invariant-loop : goal.invariant-loop
invariant-loop g l = (stealer_deque l.thief.stealer ≡ stealer_deque l.fn.thief.stealer) × (view l.thief.pass ≡ view l.fn.thief.pass)
