-- The first bytes of a key as a number.
use Rattle.std.specs.Prelude.{ℕ, zero, suc, List, [], ◌∷◌, ◌+◌, ◌*◌, ◌<◌, nat_lt, length, slice_index, if◌then◌else◌}
use Rattle.std.specs.List.{AllByRecursion}

-- how many numbers of at most n bytes there are
abbrev pub places : ℕ → ℕ
places zero = 1
places (suc n) = 256 * places n

-- the first n bytes as a number, 0 for each that is missing
abbrev pub digits : ℕ → List ℕ → ℕ
digits zero xs = 0
digits (suc n) [] = 0
digits (suc n) (x ∷ xs) = x * places n + digits n xs

-- the length of a key, 16 where it is more
abbrev pub told_length : List ℕ → ℕ
told_length key = if nat_lt 15 (length key) then 16 else length key

-- the first 15 bytes, and then the length
abbrev pub code : List ℕ → ℕ
code key = 256 * digits 15 key + told_length key

-- each number is a byte
abbrev pub AreBytes : List ℕ → Type 0
AreBytes xs = AllByRecursion (λ b. b < 256) xs

-- the byte at a place, 0 if there is none
abbrev pub byte_at : List ℕ → ℕ → ℕ
byte_at xs i = if nat_lt i (length xs) then slice_index xs i else 0
