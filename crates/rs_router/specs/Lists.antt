-- What a clause says of the lists of a pass, and of a count.
use Rattle.std.specs.Prelude.{◌≡◌, ◌==◌, ◌⊎◌, ◌<◌, ℕ, ◌+◌, List, ◌++◌, count_by, if◌then◌else◌}

-- how often x stands in the list
abbrev pub times : ℕ → List ℕ → ℕ
times x xs = count_by (λ y. y == x) xs

-- the same entries, in any order
abbrev pub SameBag : List ℕ → List ℕ → Type 0
SameBag xs ys = (x : ℕ) → times x ys ≡ times x xs

-- ys has x once more than xs, and every other entry as often
abbrev pub Adds : ℕ → List ℕ → List ℕ → Type 0
Adds x xs ys = (y : ℕ) → times y ys ≡ times y xs + (if y == x then 1 else 0)

-- ys begins with xs
abbrev pub StartsWith : List ℕ → List ℕ → Type 0
StartsWith ys xs = (more : List ℕ) × (ys ≡ xs ++ more)

-- a count rose, or stands at its last value
abbrev pub Rose : ℕ → ℕ → Type 0
Rose before after = (before < after) ⊎ (after ≡ 18446744073709551615)
