-- Lists that are joined of a piece for each round.
use Rattle.std.proofs.Common.{◌≡◌, ◌∙◌, ℕ, zero, suc, ◌+◌, ◌*◌, ◌<◌, ◌≤◌, arith, List, [], ◌∷◌, ◌++◌, take}
use Rattle.std.specs.List.{AllByRecursion, flat_map, range_with_len, sum_by}
use Rattle.std.proofs.lemmas.List.Sums.{sum_by-append}

pub all_append : {A : Type 0} (P : A → Type 0) (xs ys : List A) → AllByRecursion P xs → AllByRecursion P ys → AllByRecursion P (xs ++ ys)
all_append P [] ys a b = b
all_append P (x ∷ xs) ys a b = (a.0, all_append P xs ys a.1 b)

pub all_flat : {A B : Type 0} (P : A → Type 0) (Q : B → Type 0) (f : A → List B) → ((x : A) → P x → AllByRecursion Q (f x)) → (xs : List A) → AllByRecursion P xs → AllByRecursion Q (flat_map f xs)
all_flat P Q f each [] all = tt
all_flat P Q f each (x ∷ xs) all = all_append Q (f x) (flat_map f xs) (each x all.0) (all_flat P Q f each xs all.1)

pub all_take : {A : Type 0} (P : A → Type 0) (k : ℕ) (xs : List A) → AllByRecursion P xs → AllByRecursion P (take k xs)
all_take P zero xs all = tt
all_take P (suc k) [] all = tt
all_take P (suc k) (x ∷ xs) all = (all.0, all_take P k xs all.1)

-- what holds of each round's piece holds of all
pub all_rounds : {A : Type 0} (P : A → Type 0) (f : ℕ → List A) (a k : ℕ) → ((t : ℕ) → t < a + k → AllByRecursion P (f t)) → AllByRecursion P (flat_map f (range_with_len a k))
all_rounds P f a zero each = tt
all_rounds P f a (suc k) each =
    all_append P (f a) (flat_map f (range_with_len (a + 1) k)) (each a (omega arith)) (all_rounds P f (a + 1) k (λ t h. each t (omega arith)))

-- so many rounds hold at most so many times what one holds
pub sum_rounds : {A : Type 0} (g : A → ℕ) (f : ℕ → List A) (c a k : ℕ) → ((t : ℕ) → sum_by g (f t) ≤ c) → sum_by g (flat_map f (range_with_len a k)) ≤ k * c
sum_rounds g f c a zero each = omega arith
sum_rounds g f c a (suc k) each =
    let here : sum_by g (f a) ≤ c = each a in
    let rest : sum_by g (flat_map f (range_with_len (a + 1) k)) ≤ k * c = sum_rounds g f c (a + 1) k each in
    let both : sum_by g (f a ++ flat_map f (range_with_len (a + 1) k)) ≡ sum_by g (f a) + sum_by g (flat_map f (range_with_len (a + 1) k)) = sum_by-append g (f a) (flat_map f (range_with_len (a + 1) k)) in
    omega arith

pub sum_rounds_exact : {A : Type 0} (g : A → ℕ) (f : ℕ → List A) (c a k : ℕ) → ((t : ℕ) → sum_by g (f t) ≡ c) → sum_by g (flat_map f (range_with_len a k)) ≡ k * c
sum_rounds_exact g f c a zero each = omega arith
sum_rounds_exact g f c a (suc k) each =
    let here : sum_by g (f a) ≡ c = each a in
    let rest : sum_by g (flat_map f (range_with_len (a + 1) k)) ≡ k * c = sum_rounds_exact g f c (a + 1) k each in
    sum_by-append g (f a) (flat_map f (range_with_len (a + 1) k)) ∙ omega arith
