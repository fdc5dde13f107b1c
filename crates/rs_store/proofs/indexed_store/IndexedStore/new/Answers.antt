use Rattle.std.proofs.Common.{sym, subst, ap, ◌∙◌}
use Rattle.std.specs.Prelude.{filter}
use Rattle.rs_store.specs.Joiners.{has_commit}
use Rattle.rs_store.specs.Rollbacks.{AreTrue}
use Rattle.rs_store.proofs.RollbackLaws.{none_true}
use Rattle.rs_store.proofs.indexed_store.IndexedStore.new.Goals as goal

pub invariant_of-result : goal.invariant_of-result
invariant_of-result c = record {
  all_ids = c.requires.ids;
  all_joiners = c.in_ok-joiners.ensures ∙ ap (filter (has_commit c.args.store.now)) (c.as_slice.ensures.value ∙ c.requires.ids);
  rising = c.requires.rising;
  answered = subst (AreTrue c.args.store.now) (sym c.new.ensures) (none_true c.args.store.now);
}
