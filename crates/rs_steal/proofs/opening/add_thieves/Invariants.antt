use Rattle.std.proofs.Common.{◌≡◌, ◌+◌, ◌++◌, All, length, map, take}
use Rattle.std.specs.List.{AllWithin}
use Rattle.rs_steal.specs.Thieves.{deque_of, views_of}
use Rattle.rs_steal.specs.Deques.{own_deque, placed}
use Rattle.rs_steal.specs.Opening.{IsGuest, IsFresh}
use Rattle.rs_steal.proofs.opening.add_thieves.Given as goal

abbrev pub invariant-loop-k : goal.invariant-loop-k
invariant-loop-k l =
    (length l.others.items ≡ length l.fn.others.items)
    × (map own_deque l.others.items ≡ map own_deque l.fn.others.items)
    × (map placed l.others.items ≡ map placed l.fn.others.items)
    × AllWithin (IsFresh l.addresses l.passes (l.place + 1)) l.others.items 0 l.k
    × AllWithin (IsFresh l.addresses l.passes l.place) l.others.items l.k (length l.others.items)
    × All (IsGuest l.addresses) (views_of l.thieves.items)
    × (map deque_of l.thieves.items ≡ map deque_of l.fn.thieves.items ++ take l.k (map own_deque l.fn.others.items))
