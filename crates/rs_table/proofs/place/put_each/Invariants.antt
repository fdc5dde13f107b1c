use Rattle.std.proofs.Common.{◌≡◌, ◌+◌, ◌≤◌, length, vec_len, vec_capacity}
use Rattle.std.specs.Vec.Iter.{into_iter_items}
use Rattle.rs_table.specs.Changes.{with_states}
use Rattle.rs_table.proofs.place.put_each.Given as goal

abbrev pub invariant-loop-state : goal.invariant-loop-state
invariant-loop-state l =
    (goal.iterator-loop-state).can_next l.state-iterator ×
    (goal.iterator-loop-state).is_finite l.state-iterator ×
    (vec_len l.rows + length (into_iter_items l.state-iterator) ≤ vec_capacity l.rows) ×
    (with_states (into_iter_items l.state-iterator) l.rows.items ≡ with_states l.fn.states l.initial.rows.items)
