use Rattle.std.proofs.Common.{◌≡◌, ◌+◌, length}
use Rattle.rs_engine.proofs.crew.peer_workers.Given as goal

abbrev pub invariant-loop-place : goal.invariant-loop-place
invariant-loop-place l =
    (l.seats.plan ≡ l.initial.seats.plan) × (length l.seats.peers.items + l.place ≡ length l.initial.seats.peers.items)
    × (length l.seats.applies.items + l.place ≡ length l.initial.seats.applies.items) × (l.seats.control ≡ l.initial.seats.control)
