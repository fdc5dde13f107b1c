use Rattle.std.proofs.Common.{ℕ, ◌-◌, ◌<◌, ◌≤◌, length, get_or}
use Rattle.rs_store.specs.Indexes.{regions_of}
use Rattle.rs_store.proofs.indexed_store.place_of.Given as goal

abbrev pub invariant-loop-low : goal.invariant-loop-low
invariant-loop-low l = record {
  ordered : l.low ≤ l.high;
  within : l.high ≤ length l.logs;
  below : (k : ℕ) → k < l.low → get_or (regions_of l.logs) k 0 < l.region;
  from : (k : ℕ) → l.high ≤ k → k < length l.logs → l.region ≤ get_or (regions_of l.logs) k 0;
}

abbrev pub decreases-loop-low : goal.decreases-loop-low
decreases-loop-low l = l.high - l.low
