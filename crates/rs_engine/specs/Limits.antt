-- The limits of what a run is shared out to.
use Rattle.std.specs.Prelude.{ℕ, ◌≤◌}

-- the number is from 1 to the greatest one
abbrev pub IsUpTo : ℕ → ℕ → Type 0
IsUpTo most n = (1 ≤ n) × (n ≤ most)

-- 1 to 16 pollers of each pool, a batch of 1 to 256 and a chunk of 1 to 65,536
abbrev pub AreWithin : ℕ → ℕ → ℕ → ℕ → Type 0
AreWithin raft_pollers apply_pollers batch chunk = IsUpTo 16 raft_pollers × IsUpTo 16 apply_pollers × IsUpTo 256 batch × IsUpTo 65536 chunk
