use Rattle.std.proofs.Common.{◌≡◌, ◌-◌, ◌≤◌, length}
use Rattle.std.specs.List.{count_by}
use Rattle.rs_meta.specs.Held.{is_free}
use Rattle.rs_meta.proofs.endings.free_slots.Given as goal

abbrev pub invariant-free : goal.invariant-free
invariant-free l = (count_by is_free l.slots.items ≡ length l.slots.items) × (length l.slots.items ≤ l.count)

abbrev pub decreases-free : goal.decreases-free
decreases-free l = l.count - length l.slots.items
