-- Slots of endings: one is filled, and all are full.
use Rattle.std.proofs.Common.{◌≡◌, ◌∙◌, sym, refl, ap, ℕ, zero, suc, ◌+◌, ◌<◌, Bool, true, false, cond, List, [], ◌∷◌, ◌++◌, length, Option, Some, None, arith}
use Rattle.std.specs.Prelude.{IsSome, slice_get, slice_set}
use Rattle.std.specs.List.{count_by, filter}
use Rattle.std.proofs.lemmas.List.Sums.{length-filter}
use Rattle.rs_msg.specs.declared.ending.Ending.{Ending}
use Rattle.rs_meta.specs.Held.{ending_in, is_free, is_free_at}

abbrev pub Slots : Type 0
Slots = List (Option Ending)

-- ---- a slot that is set

pub get_set_same : (xs : Slots) (k : ℕ) (y : Option Ending) → k < length xs → slice_get (slice_set xs k y) k ≡ Some y
get_set_same [] k y lt = absurd (omega (arith, lt))
get_set_same (x ∷ xs) zero y lt = refl
get_set_same (x ∷ xs) (suc k) y lt = get_set_same xs k y (omega (arith, lt))

pub get_set_other : (xs : Slots) (k : ℕ) (y : Option Ending) (j : ℕ) → (j ≡ k → ⊥) → slice_get (slice_set xs k y) j ≡ slice_get xs j
get_set_other [] k y j ne = refl
get_set_other (x ∷ xs) zero y zero ne = absurd (ne refl)
get_set_other (x ∷ xs) zero y (suc j) ne = refl
get_set_other (x ∷ xs) (suc k) y zero ne = refl
get_set_other (x ∷ xs) (suc k) y (suc j) ne = get_set_other xs k y j (λ e. ne (ap (λ n. suc n) e))

pub length_set : (xs : Slots) (k : ℕ) (y : Option Ending) → length (slice_set xs k y) ≡ length xs
length_set [] k y = refl
length_set (x ∷ xs) zero y = refl
length_set (x ∷ xs) (suc k) y = ap (λ n. suc n) (length_set xs k y)

-- ---- how many are free

pub count_first : (x : Option Ending) (xs : Slots) → count_by is_free (x ∷ xs) ≡ cond (is_free x) (1 + count_by is_free xs) (count_by is_free xs)
count_first x xs = sym (length-filter is_free (x ∷ xs)) ∙ go (is_free x)
  where
    go : (b : Bool) → length (cond b (x ∷ filter is_free xs) (filter is_free xs)) ≡ cond b (1 + count_by is_free xs) (count_by is_free xs)
    go true = (let e : length (filter is_free xs) ≡ count_by is_free xs = length-filter is_free xs in omega arith)
    go false = length-filter is_free xs

-- where a free slot is filled, one less is free
pub one_filled : (xs : Slots) (k : ℕ) (e : Ending) → is_free_at xs k ≡ true → count_by is_free xs ≡ count_by is_free (slice_set xs k (Some e)) + 1
one_filled [] k e free = absurd cc
one_filled (x ∷ xs) zero e free =
    let here : count_by is_free (x ∷ xs) ≡ 1 + count_by is_free xs = count_first x xs ∙ ap (λ b. cond b (1 + count_by is_free xs) (count_by is_free xs)) free in
    let there : count_by is_free (Some e ∷ xs) ≡ count_by is_free xs = count_first (Some e) xs in
    omega arith
one_filled (x ∷ xs) (suc k) e free =
    let more = one_filled xs k e free in
    let here = count_first x xs in
    let there = count_first x (slice_set xs k (Some e)) in
    go (is_free x) here there more
  where
    go : (b : Bool) → count_by is_free (x ∷ xs) ≡ cond b (1 + count_by is_free xs) (count_by is_free xs)
        → count_by is_free (x ∷ slice_set xs k (Some e)) ≡ cond b (1 + count_by is_free (slice_set xs k (Some e))) (count_by is_free (slice_set xs k (Some e)))
        → count_by is_free xs ≡ count_by is_free (slice_set xs k (Some e)) + 1 → count_by is_free (x ∷ xs) ≡ count_by is_free (x ∷ slice_set xs k (Some e)) + 1
    go true here there more = omega (arith, here, there, more)
    go false here there more = omega (arith, here, there, more)

-- a free slot more
pub one_free : (xs : Slots) → count_by is_free (xs ++ None ∷ []) ≡ count_by is_free xs + 1
one_free [] = count_first None []
one_free (x ∷ xs) = go (is_free x) (count_first x xs) (count_first x (xs ++ None ∷ [])) (one_free xs)
  where
    go : (b : Bool) → count_by is_free (x ∷ xs) ≡ cond b (1 + count_by is_free xs) (count_by is_free xs)
        → count_by is_free (x ∷ (xs ++ None ∷ [])) ≡ cond b (1 + count_by is_free (xs ++ None ∷ [])) (count_by is_free (xs ++ None ∷ []))
        → count_by is_free (xs ++ None ∷ []) ≡ count_by is_free xs + 1 → count_by is_free (x ∷ (xs ++ None ∷ [])) ≡ count_by is_free (x ∷ xs) + 1
    go true here there more = omega (arith, here, there, more)
    go false here there more = omega (arith, here, there, more)

-- ---- all are full

pub full_from_count : (xs : Slots) → count_by is_free xs ≡ 0 → (k : ℕ) → k < length xs → IsSome (ending_in (slice_get xs k))
full_from_count [] none k lt = absurd (omega (arith, lt))
full_from_count (None ∷ xs) none k lt = absurd (let e = count_first None xs in omega (arith, e, none))
full_from_count (Some e ∷ xs) none zero lt = refl
full_from_count (Some e ∷ xs) none (suc k) lt = full_from_count xs (sym (count_first (Some e) xs) ∙ none) k (omega (arith, lt))

pub count_from_full : (xs : Slots) → ((k : ℕ) → k < length xs → IsSome (ending_in (slice_get xs k))) → count_by is_free xs ≡ 0
count_from_full [] full = refl
count_from_full (None ∷ xs) full = absurd (cc (full 0 (omega arith)))
count_from_full (Some e ∷ xs) full = count_first (Some e) xs ∙ count_from_full xs (λ k lt. full (suc k) (omega (arith, lt)))
