use Rattle.std.proofs.Common.{◌≡◌, ◌++◌}
use Rattle.std.specs.List.{filter}
use Rattle.rs_history.specs.Writes.{is_below, isnt_below}
use Rattle.rs_history.proofs.writes.Writes.split_at.Given as goal

abbrev pub invariant-loop-write : goal.invariant-loop-write
invariant-loop-write l =
    (l.below.items ++ filter (is_below l.key) l.write-iterator.rest.items ≡ filter (is_below l.key) l.fn.self)
    × (l.others.items ++ filter (isnt_below l.key) l.write-iterator.rest.items ≡ filter (isnt_below l.key) l.fn.self)
