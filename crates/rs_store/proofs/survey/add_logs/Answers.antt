use Rattle.std.proofs.Common.{List, ◌<◌, ◌+◌, ◌∙◌, ◌||◌, ap, sym, length, drop}
use Rattle.std.specs.List.{flat_map, list_any}
use Rattle.rs_entry.specs.declared.input.Log.{Log}
use Rattle.rs_store.specs.Awaits.{await_logs}
use Rattle.rs_store.specs.Joiners.{log_commits}
use Rattle.rs_store.specs.Places.{known}
use Rattle.rs_store.specs.Stores.{add_all, ids_in_log}
use Rattle.rs_store.proofs.AwaitLaws.{await_log}
use Rattle.rs_store.proofs.Folds.{any_next}
use Rattle.rs_store.proofs.Rising.{add_flat}
use Rattle.rs_store.proofs.survey.add_logs.Goals as goal

pub loop-log-preserved : goal.loop-log-preserved
loop-log-preserved c =
    let lt : c.loop-log.log-index < length c.args.logs.now = c.loop-log-test.true in
    let rest : List Log = drop (c.loop-log.log-index + 1) c.args.logs.now in
    record {
      ids =
          ap (λ d. add_all d (flat_map ids_in_log rest)) c.in_ok-add_log.ensures.ids
          ∙ (add_flat ids_in_log c.loop-log.survey.ids.items c.args.logs.now c.loop-log.log-index c.log-item.result lt c.log-item.is ∙ c.loop-log.invariant.ids);
      awaited =
          ap (λ f. await_logs f rest) c.in_ok-add_log.ensures.awaited
          ∙ (sym (await_log (known c.loop-log.survey.awaited) c.args.logs.now c.loop-log.log-index c.log-item.result lt c.log-item.is) ∙ c.loop-log.invariant.awaited);
      merges =
          ap (λ b. b || list_any log_commits rest) c.in_ok-add_log.ensures.merges
          ∙ (any_next log_commits c.loop-log.survey.merges c.args.logs.now c.loop-log.log-index c.log-item.result lt c.log-item.is ∙ c.loop-log.invariant.merges);
    }
