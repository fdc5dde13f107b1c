use Rattle.std.proofs.Common.{◌≡◌, take}
use Rattle.rs_store.specs.Stores.{opening}
use Rattle.rs_store.specs.Walks.{IsWalk, made_by, store_of, taken}
use Rattle.rs_part.specs.Orders.{follow}
use Rattle.rs_fold.specs.Ordered.{EndsSo}
use Rattle.rs_fold.proofs.in_order.run_in_order.Given as goal

abbrev pub invariant-loop-place : goal.invariant-loop-place
invariant-loop-place l = record {
  walk : IsWalk l.walk;
  store : store_of l.walk ≡ l.store;
  taken : taken l.walk ≡ l.place;
  so_far : EndsSo (follow l.store 1 (take l.place l.order) (opening l.store)) (made_by l.walk) l.writes l.replies.items;
}
