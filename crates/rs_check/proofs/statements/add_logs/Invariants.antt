use Rattle.std.proofs.Common.{◌≡◌, take, ◌++◌}
use Rattle.std.specs.List.{flat_map}
use Rattle.rs_check.specs.Statements.{log_stated}
use Rattle.rs_check.proofs.statements.add_logs.Given as goal

abbrev pub invariant-loop-log : goal.invariant-loop-log
invariant-loop-log l = l.all.items ≡ l.fn.all.items ++ flat_map (log_stated l.store) (take l.log-index l.logs)
