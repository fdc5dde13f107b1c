use Rattle.std.proofs.Common.{◌≡◌, ℕ, true}
use Rattle.rs_check.specs.Values.{count_of}
use Rattle.rs_table.specs.Cuts.{IsIn}
use Rattle.rs_table.specs.Tellings.{has, is_among, left_below, may_grow, numbers}
use Rattle.rs_table.proofs.cut.Growing.grow.Given as goal

abbrev pub invariant-loop-a : goal.invariant-loop-a
invariant-loop-a l =
    (l.self.cut.plan ≡ l.initial.self.cut.plan) × (l.self.cut.place ≡ l.initial.self.cut.place) × (l.self.told ≡ l.initial.self.told)
    × IsIn (numbers l.initial.self.cut.taken.items) (numbers l.self.cut.taken.items)
    × ((x : ℕ) → may_grow l.self.cut.plan.now (has l.self.told) (numbers l.self.cut.taken.items) x ≡ true → is_among x l.work.items ≡ true)

abbrev pub decreases-loop-a : goal.decreases-loop-a
decreases-loop-a l = left_below l.self.cut.plan.now l.self.cut.place (numbers l.self.cut.taken.items) (count_of l.self.cut.plan.now)
