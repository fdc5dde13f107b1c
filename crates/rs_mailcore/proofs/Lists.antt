-- Lists read by get_elem?, and the sum of the announcements.
use Rattle.std.proofs.Common.{◌≡◌, ℕ, zero, suc, ◌+◌, ◌≢◌, ◌⊎◌, List, [], ◌∷◌, set, sym, refl, ap, inl, inr, ⊎_elim, arith}
use mathlib.Core.Option.{some, some-injective, some-ne-none}
use lib.ListN.{get_elem?}
use Rattle.rs_mailcore.specs.declared.thread.Stance.{Stance}
use Rattle.rs_mailcore.specs.Words.{announcements}

module _ {A : Type 0} where
  pub at_set : (l : List A) (i j : ℕ) (a b : A) → get_elem? (set l i a) j ≡ some b → ((j ≡ i) × (a ≡ b)) ⊎ ((j ≢ i) × (get_elem? l j ≡ some b))
  at_set [] i j a b e = absurd (some-ne-none b (sym e))
  at_set (x ∷ xs) zero zero a b e = inl (refl, some-injective a b e)
  at_set (x ∷ xs) zero (suc j) a b e = inr ((λ h. omega arith), e)
  at_set (x ∷ xs) (suc i) zero a b e = inr ((λ h. omega arith), e)
  at_set (x ∷ xs) (suc i) (suc j) a b e = ⊎_elim (λ t. inl (ap suc t.0, t.1)) (λ t. let n = t.0 in inr ((λ h. n (omega arith)), t.1)) (at_set xs i j a b e)

  pub set_there : (l : List A) (i : ℕ) (x a : A) → get_elem? l i ≡ some x → get_elem? (set l i a) i ≡ some a
  set_there [] i x a e = absurd (some-ne-none x (sym e))
  set_there (y ∷ ys) zero x a e = refl
  set_there (y ∷ ys) (suc i) x a e = set_there ys i x a e

  pub set_else : (l : List A) (i j : ℕ) (a : A) → j ≢ i → get_elem? (set l i a) j ≡ get_elem? l j
  set_else [] i j a n = refl
  set_else (x ∷ xs) zero zero a n = absurd (n refl)
  set_else (x ∷ xs) zero (suc j) a n = refl
  set_else (x ∷ xs) (suc i) zero a n = refl
  set_else (x ∷ xs) (suc i) (suc j) a n = set_else xs i j a (λ e. n (ap suc e))

pub announcements-set : (l : List Stance) (i : ℕ) (x w : Stance) → get_elem? l i ≡ some x → announcements (set l i w) + x.announced ≡ announcements l + w.announced
announcements-set [] i x w e = absurd (some-ne-none x (sym e))
announcements-set (y ∷ ys) zero x w e = let is : y.announced ≡ x.announced = ap (λ (m : Stance). m.announced) (some-injective y x e) in omega arith
announcements-set (y ∷ ys) (suc i) x w e = let r = announcements-set ys i x w e in omega arith
