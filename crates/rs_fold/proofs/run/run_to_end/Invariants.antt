use Rattle.std.proofs.Common.{◌≡◌}
use Rattle.rs_store.specs.Stores.{after}
use Rattle.rs_store.specs.Walks.{IsWalk, made_by, store_of, taken}
use Rattle.rs_fold.specs.Ends.{WentSo}
use Rattle.rs_fold.proofs.run.run_to_end.Given as goal

abbrev pub invariant-loop-place : goal.invariant-loop-place
invariant-loop-place l = record {
  walk : IsWalk l.walk;
  store : store_of l.walk ≡ l.store;
  taken : taken l.walk ≡ l.place;
  so_far : WentSo (after l.store l.place) (made_by l.walk) l.writes l.replies.items;
}
