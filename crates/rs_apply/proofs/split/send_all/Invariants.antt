use Rattle.std.proofs.Common.{◌≡◌, ◌++◌}
use Rattle.std.specs.Vec.Iter.{into_iter_items}
use Rattle.rs_apply.specs.Births.{AreBorn, AddsBirths}
use Rattle.rs_apply.proofs.split.send_all.Given as goal

abbrev pub invariant-loop-state : goal.invariant-loop-state
invariant-loop-state l =
    AreBorn l.next.plan.now l.next.address (into_iter_items l.state-iterator) (into_iter_items l.maps)
    × AddsBirths l.next.plan.now l.next.address l.yielded l.initial.applies l.applies
    × (l.yielded ++ into_iter_items l.state-iterator ≡ l.fn.states)
