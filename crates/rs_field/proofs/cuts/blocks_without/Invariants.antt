use Rattle.std.proofs.Common.{◌≡◌, ℕ, ◌<◌, ◌≤◌, ◌-◌, false, eqb, get_or, length}
use Rattle.rs_field.proofs.cuts.blocks_without.Given as goal

abbrev pub invariant-skip : goal.invariant-skip
invariant-skip l = record {
  within : l.end ≤ length l.bytes;
  none : (k : ℕ) → k < l.end → eqb (get_or l.bytes k 0) l.byte ≡ false;
}

abbrev pub decreases-skip : goal.decreases-skip
decreases-skip l = length l.bytes - l.end
