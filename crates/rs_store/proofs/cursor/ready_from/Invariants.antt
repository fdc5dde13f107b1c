use Rattle.std.proofs.Common.{◌≡◌, ℕ, ◌<◌, length, get_or}
use Rattle.std.specs.Prelude.{false}
use Rattle.rs_store.specs.Stores.{is_ready}
use Rattle.rs_store.specs.Runs.{seen, bare}
use Rattle.rs_store.proofs.cursor.ready_from.Given as goal

abbrev pub invariant-loop-at : goal.invariant-loop-at
invariant-loop-at l = (k : ℕ) → k < l.at → k < length l.ids → is_ready l.indexed (bare (seen l.regions)) (get_or l.ids k 0) ≡ false
