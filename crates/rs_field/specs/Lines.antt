-- A text is cut at each LF, and a line at each space.
use Rattle.std.specs.Prelude.{ℕ, ◌==◌, List, length, nat_lt}
use Rattle.std.specs.List.{slice_split, filter}

-- the text between the LFs: the last part stands after the last LF, and is empty where each line is ended
unfoldable pub parts_of : List ℕ → List (List ℕ)
parts_of text = slice_split (λ b. b == 10) text

-- the longest runs of bytes other than space
unfoldable pub fields_of : List ℕ → List (List ℕ)
fields_of line = filter (λ f. nat_lt 0 (length f)) (slice_split (λ b. b == 32) line)
