-- How many of ascending numbers are at most another.
use Rattle.std.proofs.Common.{◌≡◌, ℕ, zero, suc, ◌+◌, ◌≤◌, ◌<◌, Bool, true, false, cond, List, [], ◌∷◌, ◌++◌, length, refl, arith, subst, inl, inr}
use Rattle.std.specs.Prelude.{leb, slice_get, Some}
use Rattle.std.specs.List.{AllByRecursion, filter}
use Rattle.std.proofs.lemmas.Bool.{cases_lt, le-leb, lt-leb}
use Rattle.rs_part.proofs.Reshapings.{count_to}

-- each is above the one before, the first above this
abbrev pub Ascend : ℕ → List ℕ → Type 0
Ascend low [] = Unit {0}
Ascend low (x ∷ xs) = (low < x) × Ascend x xs

pub ascend_more : (low n y : ℕ) (xs : List ℕ) → Ascend low xs → AllByRecursion (λ x. x ≤ n) xs → low ≤ n → n < y → Ascend low (xs ++ y ∷ [])
ascend_more low n y [] a w l h = (omega arith, tt)
ascend_more low n y (x ∷ xs) a w l h = (a.0, ascend_more x n y xs a.1 w.1 w.0 h)

pub none_below : (low index : ℕ) (xs : List ℕ) → Ascend low xs → index ≤ low → count_to index xs ≡ 0
none_below low index [] a h = refl
none_below low index (x ∷ xs) a h =
    let lt : index < x = (let l = a.0 in omega arith) in
    rw (lt-leb x index lt) (none_below x index xs a.1 (omega arith))

pub get_above : (low k i : ℕ) (xs : List ℕ) → Ascend low xs → slice_get xs k ≡ Some i → low < i
get_above low k i [] a h = absurd cc
get_above low zero i (x ∷ xs) a h = let e : x ≡ i = cc h in let l = a.0 in omega arith
get_above low (suc k) i (x ∷ xs) a h = let l = a.0 in let m = get_above x k i xs a.1 h in omega arith

pub count_at : (low k i : ℕ) (xs : List ℕ) → Ascend low xs → slice_get xs k ≡ Some i → count_to i xs ≡ k + 1
count_at low k i [] a h = absurd cc
count_at low zero i (x ∷ xs) a h =
    let e : x ≡ i = cc h in
    rw (le-leb x i (omega arith)) (let n : count_to i xs ≡ 0 = none_below x i xs a.1 (omega arith) in omega arith)
count_at low (suc k) i (x ∷ xs) a h =
    let m : x < i = get_above x k i xs a.1 h in
    rw (le-leb x i (omega arith)) (let n : count_to i xs ≡ k + 1 = count_at x k i xs a.1 h in omega arith)

pub count_before : (low k i j : ℕ) (xs : List ℕ) → Ascend low xs → slice_get xs k ≡ Some i → j < i → count_to j xs ≤ k
count_before low k i j [] a h lt = absurd cc
count_before low zero i j (x ∷ xs) a h lt =
    let e : x ≡ i = cc h in
    rw (lt-leb x j (omega arith)) (let n : count_to j xs ≡ 0 = none_below x j xs a.1 (omega arith) in omega arith)
count_before low (suc k) i j (x ∷ xs) a h lt = go (leb x j) (count_before x k i j xs a.1 h lt) where
  go : (b : Bool) → count_to j xs ≤ k → length (cond b (x ∷ filter (λ y. leb y j) xs) (filter (λ y. leb y j) xs)) ≤ suc k
  go true h = omega arith
  go false h = omega arith

pub count_grows : (i j : ℕ) (xs : List ℕ) → i ≤ j → count_to i xs ≤ count_to j xs
count_grows i j [] h = omega arith
count_grows i j (x ∷ xs) h = let r = count_grows i j xs h in
    elim (cases_lt i x) [
      | inl lt ↦ rw (lt-leb x i lt) (go (leb x j) r)
      | inr le ↦ (let xi : x ≤ j = omega arith in rw (le-leb x i le) (rw (le-leb x j xi) (omega arith)))
    ] where
      go : (b : Bool) → count_to i xs ≤ count_to j xs → count_to i xs ≤ length (cond b (x ∷ filter (λ y. leb y j) xs) (filter (λ y. leb y j) xs))
      go true h = omega arith
      go false h = omega arith

-- each that is counted stands in the list
pub counted_there : (low index m : ℕ) (xs : List ℕ) → Ascend low xs → m < count_to index xs → (i : ℕ) × (slice_get xs m ≡ Some i) × (i ≤ index)
counted_there low index m [] a h = absurd (omega arith)
counted_there low index m (x ∷ xs) a h = elim (cases_lt index x) [
  | inl lt ↦ (let n : count_to index (x ∷ xs) ≡ 0 = none_below index index (x ∷ xs) (lt, a.1) (omega arith) in absurd (omega arith))
  | inr le ↦ go m (λ k l. counted_there x index k xs a.1 l) (subst (λ b. m < length (cond b (x ∷ filter (λ y. leb y index) xs) (filter (λ y. leb y index) xs))) (le-leb x index le) h) le
] where
  go : (m : ℕ) → ((k : ℕ) → k < count_to index xs → (i : ℕ) × (slice_get xs k ≡ Some i) × (i ≤ index)) → m < suc (count_to index xs) → x ≤ index → (i : ℕ) × (slice_get (x ∷ xs) m ≡ Some i) × (i ≤ index)
  go zero rest h le = (x, refl, le)
  go (suc m) rest h le = rest m (omega arith)
