use Rattle.std.proofs.Common.{◌≡◌, ◌≤◌, ◌⊎◌, true, All, length, vec_len, vec_capacity}
use Rattle.crossbeam_queue.specs.SegTies.{IsSegPassOf}
use Rattle.rs_router.specs.Passes.{IsMember}
use Rattle.rs_router.proofs.queue_opening.open_bounded.Given as goal

abbrev pub invariant-loop-k : goal.invariant-loop-k
invariant-loop-k g l = IsSegPassOf l.queue l.first × (l.first.id ≡ 0) × ((l.first.me.view.client.fresh ≡ true) ⊎ (l.first.me.view.client.bound ≡ l.addresses)) × (vec_len l.list ≡ l._k) × (length l.list.items ≡ l._k) × (l.passes ≤ vec_capacity l.list) × All (IsMember l.queue l.addresses) l.list.items
