-- Steps of loops over lists.
use Rattle.std.proofs.Common.{◌≡◌, ℕ, ◌+◌, ◌<◌, suc, zero, refl, sym, ap, ◌∙◌, List, [], ◌∷◌, ◌++◌, length, get_or, drop, arith}
use Rattle.std.specs.Prelude.{Bool, true, false, ◌||◌}
use Rattle.std.specs.List.{flat_map, list_any}

drop_suc : {A : Type 0} (xs : List A) (i : ℕ) (x : A) → i < length xs → x ≡ get_or xs i x → drop i xs ≡ x ∷ drop (suc i) xs
drop_suc [] i x h e = absurd (omega arith)
drop_suc (y ∷ ys) zero x h e = ap (λ z. z ∷ ys) (sym e)
drop_suc (y ∷ ys) (suc i) x h e = drop_suc ys i x (omega arith) e

pub drop_here : {A : Type 0} (xs : List A) (i : ℕ) (x : A) → i < length xs → x ≡ get_or xs i x → drop i xs ≡ x ∷ drop (i + 1) xs
drop_here xs i x h e = let one : suc i ≡ i + 1 = omega arith in drop_suc xs i x h e ∙ ap (λ n. x ∷ drop n xs) one

or_assoc : (a b c : Bool) → ((a || b) || c) ≡ (a || (b || c))
or_assoc true b c = refl
or_assoc false b c = refl

-- one more of a list is tested
pub any_next : {A : Type 0} (test : A → Bool) (b : Bool) (xs : List A) (i : ℕ) (x : A) → i < length xs → x ≡ get_or xs i x
    → ((b || test x) || list_any test (drop (i + 1) xs)) ≡ (b || list_any test (drop i xs))
any_next test b xs i x h e = or_assoc b (test x) (list_any test (drop (i + 1) xs)) ∙ ap (λ ys. b || list_any test ys) (sym (drop_here xs i x h e))

-- a fold that goes over an appended list takes the parts one after the other
module _ {B C : Type 0} (fold : C → List B → C) (more : (c : C) (xs ys : List B) → fold c (xs ++ ys) ≡ fold (fold c xs) ys) where
  pub fold_flat : {A : Type 0} (f : A → List B) (c : C) (xs : List A) (i : ℕ) (x : A) → i < length xs → x ≡ get_or xs i x
      → fold (fold c (f x)) (flat_map f (drop (i + 1) xs)) ≡ fold c (flat_map f (drop i xs))
  fold_flat f c xs i x h e = sym (ap (λ zs. fold c (flat_map f zs)) (drop_here xs i x h e) ∙ more c (f x) (flat_map f (drop (i + 1) xs)))
