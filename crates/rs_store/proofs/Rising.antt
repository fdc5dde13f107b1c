-- Numbers that are put in order.
use Rattle.std.proofs.Common.{◌≡◌, ℕ, ◌+◌, ◌<◌, ◌≤◌, suc, zero, refl, sym, ap, ◌∙◌, List, [], ◌∷◌, ◌++◌, length, get_or, drop, arith}
use Rattle.std.specs.Prelude.{Bool, true, false, ◌==◌, ltb, if◌then◌else◌}
use Rattle.std.specs.List.{insert, flat_map}
use Rattle.std.proofs.lemmas.Bool.{eqb-true, eq-eqb, ltb-true, ltb-false}
use Rattle.rs_store.specs.Stores.{insert_id, add_all}

pub add_more : (done xs ys : List ℕ) → add_all done (xs ++ ys) ≡ add_all (add_all done xs) ys
add_more done [] ys = refl
add_more done (x ∷ xs) ys = add_more (insert_id x done) xs ys

-- an element below x is passed, and one above it isn't
passed : (x y : ℕ) (ys : List ℕ) → y < x → insert_id x (y ∷ ys) ≡ y ∷ insert_id x ys
passed x y ys h = go (x == y) (ltb x y) refl refl where
  go : (b d : Bool) → (x == y) ≡ b → ltb x y ≡ d → (if b then y ∷ ys else (if d then x ∷ y ∷ ys else y ∷ insert_id x ys)) ≡ y ∷ insert_id x ys
  go true d e f = let q : x ≡ y = eqb-true x y e in absurd (omega arith)
  go false true e f = let q : x < y = ltb-true x y f in absurd (omega arith)
  go false false e f = refl

before : (x y : ℕ) (ys : List ℕ) → x < y → insert_id x (y ∷ ys) ≡ x ∷ y ∷ ys
before x y ys h = go (x == y) (ltb x y) refl refl where
  go : (b d : Bool) → (x == y) ≡ b → ltb x y ≡ d → (if b then y ∷ ys else (if d then x ∷ y ∷ ys else y ∷ insert_id x ys)) ≡ x ∷ y ∷ ys
  go true d e f = let q : x ≡ y = eqb-true x y e in absurd (omega arith)
  go false true e f = refl
  go false false e f = let q : y ≤ x = ltb-false x y f in absurd (omega arith)

pub inserted_same : (xs : List ℕ) (i x : ℕ) → i < length xs → ((k : ℕ) → k < i → get_or xs k 0 < x) → get_or xs i 0 ≡ x → insert_id x xs ≡ xs
inserted_same [] i x h below e = absurd (omega arith)
inserted_same (y ∷ ys) zero x h below e = rw (eq-eqb x y (sym e)) refl
inserted_same (y ∷ ys) (suc i) x h below e =
    let lt : y < x = below 0 (omega arith) in
    passed x y ys lt ∙ ap (λ zs. y ∷ zs) (inserted_same ys i x (omega arith) (λ k q. below (suc k) (omega arith)) e)

pub inserted_at : (xs : List ℕ) (i x : ℕ) → i < length xs → ((k : ℕ) → k < i → get_or xs k 0 < x) → x < get_or xs i 0 → insert_id x xs ≡ insert xs i x
inserted_at [] i x h below e = absurd (omega arith)
inserted_at (y ∷ ys) zero x h below e = before x y ys e
inserted_at (y ∷ ys) (suc i) x h below e =
    let lt : y < x = below 0 (omega arith) in
    passed x y ys lt ∙ ap (λ zs. y ∷ zs) (inserted_at ys i x (omega arith) (λ k q. below (suc k) (omega arith)) e)

pub inserted_end : (xs : List ℕ) (x : ℕ) → ((k : ℕ) → k < length xs → get_or xs k 0 < x) → insert_id x xs ≡ xs ++ x ∷ []
inserted_end [] x below = refl
inserted_end (y ∷ ys) x below =
    let lt : y < x = below 0 (omega arith) in
    passed x y ys lt ∙ ap (λ zs. y ∷ zs) (inserted_end ys x (λ k q. below (suc k) (omega arith)))

at_drop : {A : Type 0} (xs : List A) (i : ℕ) (x : A) → i < length xs → x ≡ get_or xs i x → drop i xs ≡ x ∷ drop (suc i) xs
at_drop [] i x h e = absurd (omega arith)
at_drop (y ∷ ys) zero x h e = ap (λ z. z ∷ ys) (sym e)
at_drop (y ∷ ys) (suc i) x h e = at_drop ys i x (omega arith) e

-- one more of the lists that are added
pub add_flat : {A : Type 0} (f : A → List ℕ) (done : List ℕ) (xs : List A) (i : ℕ) (x : A) → i < length xs → x ≡ get_or xs i x
    → add_all (add_all done (f x)) (flat_map f (drop (i + 1) xs)) ≡ add_all done (flat_map f (drop i xs))
add_flat f done xs i x h e =
    let one : i + 1 ≡ suc i = omega arith in
    sym (ap (λ zs. add_all done (flat_map f zs)) (at_drop xs i x h e)
    ∙ (add_more done (f x) (flat_map f (drop (suc i) xs)) ∙ ap (λ n. add_all (add_all done (f x)) (flat_map f (drop n xs))) (sym one)))

pub get_or_any : (xs : List ℕ) (i d e : ℕ) → i < length xs → get_or xs i d ≡ get_or xs i e
get_or_any [] i d e h = absurd (omega arith)
get_or_any (x ∷ xs) zero d e h = refl
get_or_any (x ∷ xs) (suc i) d e h = get_or_any xs i d e (omega arith)
