-- Equality of lists, as a test.
use Rattle.std.specs.Prelude.{◌&&◌, Bool, true, false, List, [], ◌∷◌, Option, Some, None}

-- two lists of one length, equal place by place
abbrev pub same_lists : {A : Type 0} → (A → A → Bool) → List A → List A → Bool
same_lists same [] [] = true
same_lists same [] (y ∷ ys) = false
same_lists same (x ∷ xs) [] = false
same_lists same (x ∷ xs) (y ∷ ys) = same x y && same_lists same xs ys

-- both missing, or both there and equal
abbrev pub same_options : {A : Type 0} → (A → A → Bool) → Option A → Option A → Bool
same_options same None None = true
same_options same None (Some y) = false
same_options same (Some x) None = false
same_options same (Some x) (Some y) = same x y
