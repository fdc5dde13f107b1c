use Rattle.std.proofs.Common.{◌≡◌, drop}
use Rattle.rs_check.specs.Lines.{carried_at}
use Rattle.rs_check.proofs.entry_scan.carried_at.Given as goal

abbrev pub invariant-loop-log : goal.invariant-loop-log
invariant-loop-log l = carried_at l.region l.index l.logs ≡ carried_at l.region l.index (drop l.log-index l.logs)
