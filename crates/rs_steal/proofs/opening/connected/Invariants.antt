use Rattle.std.proofs.Common.{◌≡◌, ◌+◌, All, length, map, take, drop}
use Rattle.rs_steal.specs.Deques.{own_deque, placed}
use Rattle.rs_steal.specs.Opening.{IsFresh}
use Rattle.rs_steal.proofs.Places.{InPlaces}
use Rattle.rs_steal.proofs.opening.connected.Given as goal

abbrev pub invariant-loop-place : goal.invariant-loop-place
invariant-loop-place l =
    (length l.waiting.items + l.place ≡ l.passes) × (length l.done.items ≡ l.place)
    × (map own_deque l.waiting.items ≡ drop l.place (map own_deque l.fn.waiting.items))
    × (map own_deque l.done.items ≡ take l.place (map own_deque l.fn.waiting.items))
    × All (IsFresh l.addresses l.passes l.place) l.waiting.items
    × All (IsFresh l.addresses l.passes l.place) l.done.items
    × InPlaces (map own_deque l.fn.waiting.items) (map placed l.done.items)
