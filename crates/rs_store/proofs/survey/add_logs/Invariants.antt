use Rattle.std.proofs.Common.{◌≡◌, ◌||◌, drop}
use Rattle.std.specs.List.{flat_map, list_any}
use Rattle.rs_store.specs.Awaits.{await_logs}
use Rattle.rs_store.specs.Joiners.{log_commits}
use Rattle.rs_store.specs.Places.{known}
use Rattle.rs_store.specs.Stores.{add_all, ids_in_log}
use Rattle.rs_store.proofs.survey.add_logs.Given as goal

abbrev pub invariant-loop-log : goal.invariant-loop-log
invariant-loop-log l = record {
  ids : add_all l.survey.ids.items (flat_map ids_in_log (drop l.log-index l.logs)) ≡ add_all l.fn.survey.ids.items (flat_map ids_in_log l.logs);
  awaited : await_logs (known l.survey.awaited) (drop l.log-index l.logs) ≡ await_logs (known l.fn.survey.awaited) l.logs;
  merges : (l.survey.merges || list_any log_commits (drop l.log-index l.logs)) ≡ (l.fn.survey.merges || list_any log_commits l.logs);
}
