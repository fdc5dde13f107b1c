use Rattle.std.proofs.Common.{◌≡◌, ◌||◌, drop}
use Rattle.std.specs.List.{flat_map, list_any}
use Rattle.rs_store.specs.Awaits.{await_entries}
use Rattle.rs_store.specs.Joiners.{commits}
use Rattle.rs_store.specs.Places.{known}
use Rattle.rs_store.specs.Stores.{add_all, ids_in}
use Rattle.rs_store.proofs.survey.add_entries.Given as goal

abbrev pub invariant-loop-entry : goal.invariant-loop-entry
invariant-loop-entry l = record {
  ids : add_all l.survey.ids.items (flat_map (λ e. ids_in e.body) (drop l.entry-index l.entries)) ≡ add_all l.fn.survey.ids.items (flat_map (λ e. ids_in e.body) l.entries);
  awaited : await_entries (known l.survey.awaited) (drop l.entry-index l.entries) ≡ await_entries (known l.fn.survey.awaited) l.entries;
  merges : (l.survey.merges || list_any commits (drop l.entry-index l.entries)) ≡ (l.fn.survey.merges || list_any commits l.entries);
}
