use Rattle.std.proofs.Common.{◌≡◌, ◌++◌}
use Rattle.std.specs.List.{flat_map, range_with_len}
use Rattle.rs_gen.specs.Inputs.{child_log, kept}
use Rattle.rs_gen.proofs.inputs.add_child_logs.Given as goal

abbrev pub invariant-loop-nth : goal.invariant-loop-nth
invariant-loop-nth l = l.logs ≡ l.fn.logs ++ flat_map (λ t. child_log l.n t (kept l.share l.n t)) (range_with_len 0 l.nth)
