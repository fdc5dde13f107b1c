-- One reshaping more, in the numbers.
use Rattle.std.proofs.Common.{◌≡◌, ℕ, zero, suc, ◌+◌, ◌<◌, ◌≤◌, ◌∙◌, List, [], ◌∷◌, length, set, refl, ap, sym, arith, le_refl}
use Rattle.rs_table.specs.Cuts.{Cut}
use Rattle.rs_table.specs.Moves.{raised}
use Rattle.rs_table.specs.Tellings.{numbers}
use Rattle.rs_table.proofs.Cutting.{numbers_raised}

-- lists of one length with the same numbers are one
pub same_list : (xs ys : List ℕ) → length xs ≡ length ys → numbers xs ≡ numbers ys → xs ≡ ys
same_list [] [] l e = refl
same_list [] (y ∷ ys) l e = absurd (omega arith)
same_list (x ∷ xs) [] l e = absurd (omega arith)
same_list (x ∷ xs) (y ∷ ys) l e =
    let tail : xs ≡ ys = same_list xs ys (omega (arith, l)) (ap (λ (n : Cut). λ i. n (suc i)) e) in
    let head : x ≡ y = ap (λ (n : Cut). n 0) e in
    ap (λ z. z ∷ xs) head ∙ ap (λ zs. y ∷ zs) tail

pub length_set : (xs : List ℕ) (a v : ℕ) → length (set xs a v) ≡ length xs
length_set [] a v = refl
length_set (x ∷ xs) zero v = refl
length_set (x ∷ xs) (suc a) v = ap suc (length_set xs a v)

-- what covers one reshaping more of the address is the list with a number greater by one
pub one_set : (xs ys : List ℕ) (a : ℕ) → a < length xs → length ys ≡ length xs → numbers ys ≡ raised (numbers xs) a → ys ≡ set xs a (numbers xs a + 1)
one_set xs ys a lt len e = same_list ys (set xs a (numbers xs a + 1)) (len ∙ sym (length_set xs a (numbers xs a + 1))) (e ∙ sym (numbers_raised xs a lt))

pub grows : (xs : List ℕ) (a i : ℕ) → numbers xs i ≤ numbers (set xs a (numbers xs a + 1)) i
grows [] a i = le_refl 0
grows (x ∷ xs) zero zero = omega arith
grows (x ∷ xs) zero (suc i) = le_refl (numbers xs i)
grows (x ∷ xs) (suc a) zero = le_refl x
grows (x ∷ xs) (suc a) (suc i) = grows xs a i
