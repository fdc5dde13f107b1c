use Rattle.std.proofs.Common.{◌≡◌, map}
use Rattle.std.specs.List.{AllWithin}
use Rattle.rs_steal.specs.Rule.{WasEmpty}
use Rattle.rs_steal.specs.Thieves.{deque_of, views_of}
use Rattle.rs_steal.proofs.stealing.steal_round.Given as goal

abbrev pub invariant-loop-k : goal.invariant-loop-k
invariant-loop-k g l = (map deque_of l.thieves.items ≡ map deque_of l.fn.thieves.items)
    × (views_of l.thieves.items ≡ views_of l.fn.thieves.items)
    × AllWithin WasEmpty (views_of l.fn.thieves.items) 0 l.k
