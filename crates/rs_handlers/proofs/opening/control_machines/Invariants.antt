use Rattle.std.proofs.Common.{◌≡◌, All, length}
use Rattle.rs_handlers.specs.Outs.{FitsControl}
use Rattle.rs_handlers.proofs.opening.control_machines.Given as goal

abbrev pub invariant-loop-place : goal.invariant-loop-place
invariant-loop-place l = (length l.machines ≡ l.place) × All (λ machine. machine.plan.now ≡ l.plan) l.machines × FitsControl l.plan l.out
