-- What is among the elements of a list.
use Rattle.std.proofs.Common.{◌≡◌, ℕ, zero, suc, ◌==◌, ltb, Bool, true, false, cond, List, [], ◌∷◌, ◌++◌, map, Some, None, refl, ap, sym, ◌∙◌, ◌⊎◌, subst, inl, inr}
use Rattle.std.specs.Prelude.{if◌then◌else◌, slice_get}
use Rattle.std.specs.List.{AllByRecursion, find, flat_map}
use Rattle.std.proofs.lemmas.Bool.{cases_eq, eqb-true}
use Rattle.rs_store.specs.Stores.{add_all, insert_id}
use Rattle.rs_part.specs.Counting.{IsAmong}

pub among_left : {A : Type 0} (x : A) (xs ys : List A) → IsAmong x xs → IsAmong x (xs ++ ys)
among_left x [] ys i = absurd i
among_left x (y ∷ xs) ys (inl p) = inl p
among_left x (y ∷ xs) ys (inr i) = inr (among_left x xs ys i)

pub among_right : {A : Type 0} (x : A) (xs ys : List A) → IsAmong x ys → IsAmong x (xs ++ ys)
among_right x [] ys i = i
among_right x (y ∷ xs) ys i = inr (among_right x xs ys i)

pub among_map : {A B : Type 0} (f : A → B) (x : A) (xs : List A) → IsAmong x xs → IsAmong (f x) (map f xs)
among_map f x [] i = absurd i
among_map f x (y ∷ xs) (inl p) = inl (ap f p)
among_map f x (y ∷ xs) (inr i) = inr (among_map f x xs i)

pub among_flat : {A B : Type 0} (f : A → List B) (x : B) (y : A) (ys : List A) → IsAmong x (f y) → IsAmong y ys → IsAmong x (flat_map f ys)
among_flat f x y [] a i = absurd i
among_flat f x y (z ∷ zs) a (inl p) = among_left x (f z) (flat_map f zs) (subst (λ w. IsAmong x (f w)) p a)
among_flat f x y (z ∷ zs) a (inr i) = among_right x (f z) (flat_map f zs) (among_flat f x y zs a i)

-- what holds of each holds of it
pub among_all : {A : Type 0} (P : A → Type 0) (x : A) (xs : List A) → AllByRecursion P xs → IsAmong x xs → P x
among_all P x [] all i = absurd i
among_all P x (y ∷ xs) all (inl p) = subst P (sym p) all.0
among_all P x (y ∷ xs) all (inr i) = among_all P x xs all.1 i

pub among_get : {A : Type 0} (xs : List A) (k : ℕ) (x : A) → slice_get xs k ≡ Some x → IsAmong x xs
among_get [] k x e = absurd cc
among_get (y ∷ xs) zero x e = inl cc
among_get (y ∷ xs) (suc k) x e = inr (among_get xs k x e)

-- what is found is among them, and passes the test
pub among_find : {A : Type 0} (test : A → Bool) (xs : List A) (x : A) → find test xs ≡ Some x → IsAmong x xs × (test x ≡ true)
among_find test [] x e = absurd cc
among_find test (y ∷ xs) x e = go (test y) refl (among_find test xs x)
  where
    go : (b : Bool) → test y ≡ b → (find test xs ≡ Some x → IsAmong x xs × (test x ≡ true)) → IsAmong x (y ∷ xs) × (test x ≡ true)
    go true b rest =
        let same : y ≡ x = cc (sym (ap (λ z. cond z (Some y) (find test xs)) b) ∙ e) in
        (inl (sym same), ap test (sym same) ∙ b)
    go false b rest = (let w = rest (sym (ap (λ z. cond z (Some y) (find test xs)) b) ∙ e) in (inr w.0, w.1))

-- where none is found, each fails the test
pub find_none : {A : Type 0} (test : A → Bool) (xs : List A) (x : A) → find test xs ≡ None → IsAmong x xs → test x ≡ false
find_none test [] x e i = absurd i
find_none test (y ∷ ys) x e i = go (test y) refl (find_none test ys x) i
  where
    go : (b : Bool) → test y ≡ b → (find test ys ≡ None → IsAmong x ys → test x ≡ false) → IsAmong x (y ∷ ys) → test x ≡ false
    go true b rest i = absurd (cc (sym (ap (λ z. cond z (Some y) (find test ys)) b) ∙ e))
    go false b rest (inl p) = ap test p ∙ b
    go false b rest (inr j) = rest (sym (ap (λ z. cond z (Some y) (find test ys)) b) ∙ e) j

-- where each fails the test, none is found
pub find_fails : {A : Type 0} (test : A → Bool) (xs : List A) → ((x : A) → test x ≡ false) → find test xs ≡ None
find_fails test [] fails = refl
find_fails test (y ∷ ys) fails = ap (λ z. cond z (Some y) (find test ys)) (fails y) ∙ find_fails test ys fails

-- a number is among these, or none of them
pub among_or : (x : ℕ) (xs : List ℕ) → IsAmong x xs ⊎ AllByRecursion (λ d. d ≡ x → ⊥) xs
among_or x [] = inr tt
among_or x (y ∷ ys) =
    elim (cases_eq y x) [
      | inl e ↦ inl (inl (sym e))
      | inr ne ↦ elim (among_or x ys) [ inl i ↦ inl (inr i) | inr a ↦ inr (ne, a) ]
    ]

-- ---- ids in rising order

among_insert : (x y : ℕ) (ys : List ℕ) → (x ≡ y) ⊎ IsAmong x ys → IsAmong x (insert_id y ys)
among_insert x y [] h = h
among_insert x y (z ∷ zs) h = go (y == z) refl (ltb y z) (among_insert x y zs) h
  where
    go : (a : Bool) → (y == z) ≡ a → (b : Bool) → ((x ≡ y) ⊎ IsAmong x zs → IsAmong x (insert_id y zs)) → (x ≡ y) ⊎ IsAmong x (z ∷ zs)
        → IsAmong x (if a then z ∷ zs else (if b then y ∷ z ∷ zs else z ∷ insert_id y zs))
    go true e b rest (inl p) = inl (p ∙ eqb-true y z e)
    go true e b rest (inr i) = i
    go false e true rest h = h
    go false e false rest (inl p) = inr (rest (inl p))
    go false e false rest (inr (inl q)) = inl q
    go false e false rest (inr (inr i)) = inr (rest (inr i))

-- what was there before ids are added, or is one of them, is there after
pub among_added : (x : ℕ) (done xs : List ℕ) → IsAmong x done ⊎ IsAmong x xs → IsAmong x (add_all done xs)
among_added x done [] (inl i) = i
among_added x done [] (inr i) = absurd i
among_added x done (y ∷ ys) (inl i) = among_added x (insert_id y done) ys (inl (among_insert x y done (inr i)))
among_added x done (y ∷ ys) (inr (inl p)) = among_added x (insert_id y done) ys (inl (among_insert x y done (inl p)))
among_added x done (y ∷ ys) (inr (inr i)) = among_added x (insert_id y done) ys (inr i)
