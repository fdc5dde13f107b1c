use Rattle.std.proofs.Common.{◌≡◌, ℕ, true, vec_len}
use Rattle.rs_table.specs.Tellings.{has, is_among, may_grow, numbers}
use Rattle.rs_table.proofs.cut.Growing.next.Given as goal

abbrev pub invariant-loop-a : goal.invariant-loop-a
invariant-loop-a l =
    (x : ℕ) → is_among x l.initial.work.items ≡ true → may_grow l.self.cut.plan.now (has l.self.told) (numbers l.self.cut.taken.items) x ≡ true → is_among x l.work.items ≡ true

abbrev pub decreases-loop-a : goal.decreases-loop-a
decreases-loop-a l = vec_len l.work
