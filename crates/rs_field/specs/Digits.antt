-- Pairs of hexadecimal digits, read from the front.
use Rattle.std.specs.Prelude.{◌≡◌, ℕ, ◌*◌, List, drop}
use Rattle.hex.specs.Hex.{decode_pairs}
use Rattle.hex.proofs.Pairs.{prepend}

-- the bytes of the pairs so far, then those of the rest, are the bytes of all
abbrev pub Reads : List ℕ → List ℕ → ℕ → Type 0
Reads s out i = decode_pairs 0 s ≡ prepend out (decode_pairs (2 * i) (drop (2 * i) s))
