use Rattle.std.proofs.Common.{◌≡◌, ◌<◌, ℕ, false}
use Rattle.rs_table.specs.CutViews.{cut_of, input_of, place_of}
use Rattle.rs_table.specs.Tellings.{can_follow}
use Rattle.rs_table.proofs.cut_table.CutTable.next.Given as goal

abbrev pub invariant-loop-a : goal.invariant-loop-a
invariant-loop-a l = (b : ℕ) → b < l.a → can_follow (input_of l.self) (place_of l.self) (cut_of l.self) b ≡ false
