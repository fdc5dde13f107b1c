use Rattle.std.proofs.Common.{List, ◌<◌, ◌+◌, ◌∙◌, ◌||◌, ap, sym, length, drop}
use Rattle.std.specs.List.{flat_map, list_any}
use Rattle.rs_entry.specs.declared.entry.Entry.{Entry}
use Rattle.rs_store.specs.Awaits.{await_entries}
use Rattle.rs_store.specs.Joiners.{commits}
use Rattle.rs_store.specs.Places.{known}
use Rattle.rs_store.specs.Stores.{add_all, ids_in}
use Rattle.rs_store.proofs.AwaitLaws.{await_next}
use Rattle.rs_store.proofs.Folds.{any_next}
use Rattle.rs_store.proofs.Rising.{add_flat}
use Rattle.rs_store.proofs.survey.add_entries.Goals as goal

pub loop-entry-preserved : goal.loop-entry-preserved
loop-entry-preserved c =
    let lt : c.loop-entry.entry-index < length c.args.entries.now = c.loop-entry-test.true in
    let rest : List Entry = drop (c.loop-entry.entry-index + 1) c.args.entries.now in
    record {
      ids =
          ap (λ d. add_all d (flat_map (λ (e : Entry). ids_in e.body) rest)) c.in_ok-add_entry.ensures.ids
          ∙ (add_flat (λ (e : Entry). ids_in e.body) c.loop-entry.survey.ids.items c.args.entries.now c.loop-entry.entry-index c.entry-item.result lt c.entry-item.is
          ∙ c.loop-entry.invariant.ids);
      awaited =
          ap (λ f. await_entries f rest) c.in_ok-add_entry.ensures.awaited
          ∙ (sym (await_next (known c.loop-entry.survey.awaited) c.args.entries.now c.loop-entry.entry-index c.entry-item.result lt c.entry-item.is) ∙ c.loop-entry.invariant.awaited);
      merges =
          ap (λ b. b || list_any commits rest) c.in_ok-add_entry.ensures.merges
          ∙ (any_next commits c.loop-entry.survey.merges c.args.entries.now c.loop-entry.entry-index c.entry-item.result lt c.entry-item.is ∙ c.loop-entry.invariant.merges);
    }
