use Rattle.std.proofs.Common.{◌≡◌, ◌<◌, ℕ, true}
use Rattle.rs_table.specs.Cuts.{is_on}
use Rattle.rs_table.specs.Tellings.{IsWaiting, waiters}
use Rattle.rs_table.proofs.opening.all_waits.Given as goal

abbrev pub invariant-loop-a : goal.invariant-loop-a
invariant-loop-a l = (x : ℕ) → x < l.a → is_on l.plan l.place x ≡ true → IsWaiting l.plan (waiters l.waits) x
