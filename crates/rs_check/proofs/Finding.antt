-- What is in a list, and what a search of it finds.
use Rattle.std.proofs.Common.{◌≡◌, ℕ, ◌<◌, ◌==◌, arith, subst, Bool, true, false, ◌||◌, if◌then◌else◌, List, [], ◌∷◌, ◌++◌, map, Option, Some, None, refl, ap, sym, ◌∙◌, ◌⊎◌, inl, inr, option_map}
use Rattle.std.specs.List.{find, flat_map, list_any, AllByRecursion}
use Rattle.std.proofs.lemmas.Bool.{both_ways, eq-eqb, ne_eqb}
use Rattle.rs_entry.specs.WellFormed.{Rising}
use Rattle.rs_store.specs.Stores.{first_some}
use Rattle.rs_part.specs.Counting.{IsAmong}

-- where something in an appended list, a map or a flat map comes from
pub from_append : {A : Type 0} (x : A) (xs ys : List A) → IsAmong x (xs ++ ys) → IsAmong x xs ⊎ IsAmong x ys
from_append x [] ys i = inr i
from_append x (y ∷ xs) ys (inl p) = inl (inl p)
from_append x (y ∷ xs) ys (inr i) = elim (from_append x xs ys i) [ inl a ↦ inl (inr a) | inr b ↦ inr b ]

pub from_map : {A B : Type 0} (f : A → B) (z : B) (xs : List A) → IsAmong z (map f xs) → (x : A) × (IsAmong x xs) × (z ≡ f x)
from_map f z [] i = absurd i
from_map f z (x ∷ xs) (inl p) = (x, inl refl, p)
from_map f z (x ∷ xs) (inr i) = (let w = from_map f z xs i in (w.0, inr w.1, w.2))

pub from_flat : {A B : Type 0} (f : A → List B) (x : B) (ys : List A) → IsAmong x (flat_map f ys) → (y : A) × (IsAmong y ys) × (IsAmong x (f y))
from_flat f x [] i = absurd i
from_flat f x (y ∷ ys) i = elim (from_append x (f y) (flat_map f ys) i) [
  | inl a ↦ (y, inl refl, a)
  | inr b ↦ (let w = from_flat f x ys b in (w.0, inr w.1, w.2))
]

-- what holds of each holds of all
pub all_in : {A : Type 0} (P : A → Type 0) (xs : List A) → ((x : A) → IsAmong x xs → P x) → AllByRecursion P xs
all_in P [] f = tt
all_in P (x ∷ xs) f = (f x (inl refl), all_in P xs (λ y h. f y (inr h)))

-- ---- searches

-- what is in the list and passes the test lets something be found
pub find_some : {A : Type 0} (test : A → Bool) (x : A) (xs : List A) → IsAmong x xs → test x ≡ true → (y : A) × (find test xs ≡ Some y)
find_some {A = A} test x [] i t = absurd i
find_some {A = A} test x (y ∷ ys) i t = go (test y) refl i (find_some test x ys) where
  go : (b : Bool) → test y ≡ b → IsAmong x (y ∷ ys) → (IsAmong x ys → test x ≡ true → (z : A) × (find test ys ≡ Some z)) → (z : A) × ((if b then Some y else find test ys) ≡ Some z)
  go true b j rest = (y, refl)
  go false b (inl p) rest = absurd (both_ways (test y) b (ap test (sym p) ∙ t))
  go false b (inr j) rest = rest j t

-- what is found in the front of an appended list is found in the whole
pub find_front : {A : Type 0} (test : A → Bool) (xs ys : List A) (t : A) → find test xs ≡ Some t → find test (xs ++ ys) ≡ Some t
find_front test [] ys t h = absurd cc
find_front test (x ∷ xs) ys t h = go (test x) h (find_front test xs ys t) where
  go : (b : Bool) → (if b then Some x else find test xs) ≡ Some t → (find test xs ≡ Some t → find test (xs ++ ys) ≡ Some t) → (if b then Some x else find test (xs ++ ys)) ≡ Some t
  go true k rest = k
  go false k rest = rest k

-- where nothing is found in the front, the search goes on behind it
pub find_behind : {A : Type 0} (test : A → Bool) (xs ys : List A) → find test xs ≡ None → find test (xs ++ ys) ≡ find test ys
find_behind test [] ys h = refl
find_behind test (x ∷ xs) ys h = go (test x) h (find_behind test xs ys) where
  go : (b : Bool) → (if b then Some x else find test xs) ≡ None → (find test xs ≡ None → find test (xs ++ ys) ≡ find test ys) → (if b then Some x else find test (xs ++ ys)) ≡ find test ys
  go true k rest = absurd cc
  go false k rest = rest k

-- where neither of two tests passes
pub or_none : (a b : Bool) → (a || b) ≡ false → (a ≡ false) × (b ≡ false)
or_none true b e = absurd cc
or_none false b e = (refl, e)

-- where nothing in the list passes the test
pub any_false : {A : Type 0} (test : A → Bool) (xs : List A) (x : A) → list_any test xs ≡ false → IsAmong x xs → test x ≡ false
any_false test [] x e h = absurd h
any_false test (y ∷ xs) x e (inl h) = ap test h ∙ (or_none (test y) (list_any test xs) e).0
any_false test (y ∷ xs) x e (inr h) = any_false test xs x (or_none (test y) (list_any test xs) e).1 h

-- where neither of two answers is there
pub both_none : {A : Type 0} (a b : Option A) → first_some a b ≡ None → (a ≡ None) × (b ≡ None)
both_none None b h = (refl, h)
both_none (Some x) b h = absurd cc

-- ---- ids in rising order

above_low : {A : Type 0} (id : A → ℕ) (low : ℕ) (xs : List A) → Rising low (map id xs) → (x : A) → IsAmong x xs → low < id x
above_low id low [] h x i = absurd i
above_low id low (y ∷ ys) h x (inl p) = (let lt : low < id y = h.0 in subst (λ z. low < id z) (sym p) lt)
above_low id low (y ∷ ys) h x (inr i) =
    let lt : low < id y = h.0 in
    let more : id y < id x = above_low id (id y) ys h.2 x i in
    omega arith

-- each is found by its id
pub find_rising : {A : Type 0} (id : A → ℕ) (low : ℕ) (xs : List A) → Rising low (map id xs) → (x : A) → IsAmong x xs → find (λ y. id y == id x) xs ≡ Some x
find_rising id low [] h x i = absurd i
find_rising id low (y ∷ ys) h x (inl p) = ap (λ b. if b then Some y else find (λ z. id z == id x) ys) (eq-eqb (id y) (id x) (ap id (sym p))) ∙ ap Some (sym p)
find_rising id low (y ∷ ys) h x (inr i) =
    let lt : id y < id x = above_low id (id y) ys h.2 x i in
    ap (λ b. if b then Some y else find (λ z. id z == id x) ys) (ne_eqb (id y) (id x) (λ p. omega arith)) ∙ find_rising id (id y) ys h.2 x i

-- where there is nothing after a map there was nothing before
pub map_none : {A B : Type 0} (f : A → B) (o : Option A) → option_map f o ≡ None → o ≡ None
map_none f None h = refl
map_none f (Some x) h = absurd cc
