-- What a clause says of a count of a handler.
use Rattle.std.specs.Prelude.{◌≡◌, ◌⊎◌, ℕ, ◌+◌, ◌≤◌}

-- a count rose by n, or both the count and that sum have come to the last value of a counter of 64 bits
abbrev pub RoseBy : ℕ → ℕ → ℕ → Type 0
RoseBy n before after = (after ≡ before + n) ⊎ ((18446744073709551615 ≤ after) × (18446744073709551615 ≤ before + n))
