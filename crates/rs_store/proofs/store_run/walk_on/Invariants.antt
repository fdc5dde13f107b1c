use Rattle.std.proofs.Common.{◌≡◌}
use Rattle.rs_store.specs.Stores.{after}
use Rattle.rs_store.specs.Runs.{forget, Moved}
use Rattle.rs_store.specs.Walks.{IsWalk, store_of, made_by}
use Rattle.rs_store.proofs.store_run.walk_on.Given as goal

abbrev pub invariant-loop-place : goal.invariant-loop-place
invariant-loop-place l = record {
  here : forget (after (store_of l.fn.walk) l.place) ≡ Moved (made_by l.walk);
  kept : IsWalk l.walk;
  steps : l.walk.steps ≡ l.place;
  same : store_of l.walk ≡ store_of l.fn.walk;
}
