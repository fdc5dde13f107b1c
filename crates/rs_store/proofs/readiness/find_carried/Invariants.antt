use Rattle.std.proofs.Common.{◌≡◌, drop}
use Rattle.std.specs.Prelude.{◌==◌}
use Rattle.std.specs.List.{find}
use Rattle.rs_store.proofs.readiness.find_carried.Given as goal

abbrev pub invariant-loop-c : goal.invariant-loop-c
invariant-loop-c l = find (λ c. c.index == l.index) l.carried ≡ find (λ c. c.index == l.index) (drop l.c-index l.carried)
