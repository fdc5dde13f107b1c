use Rattle.std.proofs.Common.{◌≡◌, All, length}
use Rattle.rs_handlers.proofs.opening.apply_machines.Given as goal

abbrev pub invariant-loop-address : goal.invariant-loop-address
invariant-loop-address l = (length l.machines ≡ l.address) × All (λ machine. machine.plan.now ≡ l.plan) l.machines
