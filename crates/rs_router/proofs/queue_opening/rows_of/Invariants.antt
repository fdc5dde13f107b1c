use Rattle.std.proofs.Common.{◌≡◌, ◌+◌, All, length}
use Rattle.rs_router.specs.Passes.{IsMember, IsNewPass}
use Rattle.rs_router.proofs.queue_opening.rows_of.Given as goal

abbrev pub invariant-loop-place : goal.invariant-loop-place
invariant-loop-place l = (length l.list.items + l.place ≡ l.passes) × All (IsMember l.queue l.addresses) l.list.items × (length l.rows ≡ l.place) × All (IsNewPass l.queue l.addresses) l.rows
