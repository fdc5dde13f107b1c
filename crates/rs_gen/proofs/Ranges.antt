-- Rounds that are counted from 0.
use Rattle.std.proofs.Common.{◌≡◌, ◌<◌, ◌∙◌, sym, ap, ℕ, zero, suc, ◌+◌, refl, arith, List, [], ◌∷◌, ◌++◌, append_assoc}
use Rattle.std.specs.Prelude.{map, take}
use Rattle.std.specs.List.{flat_map, range_with_len}
use Rattle.std.proofs.lemmas.Grind.{flat_map-append}
use Rattle.std.proofs.lemmas.List.{append-nil}
use Rattle.rs_entry.specs.declared.entry.Carried.{Carried}
use Rattle.rs_entry.specs.declared.entry.Entry.{Entry}
use Rattle.rs_entry.specs.Entries.{entry_of}
use Rattle.rs_gen.specs.Rounds.{child, child_entries}
use Rattle.rs_gen.specs.Inputs.{child_log}

-- one round more
range_more : (a k : ℕ) → range_with_len a (suc k) ≡ range_with_len a k ++ (a + k) ∷ []
range_more a zero = ap (λ x. x ∷ []) (omega arith)
range_more a (suc k) = (let e : a + 1 + k ≡ a + suc k = omega arith in ap (λ xs. a ∷ xs) (range_more (a + 1) k ∙ ap (λ x. range_with_len (a + 1) k ++ x ∷ []) e))

pub flat_range_more : {A : Type 0} (f : ℕ → List A) (k : ℕ) → flat_map f (range_with_len 0 (k + 1)) ≡ flat_map f (range_with_len 0 k) ++ f k
flat_range_more f k =
    let one : k + 1 ≡ suc k = omega arith in
    let from : 0 + k ≡ k = omega arith in
    ap (λ j. flat_map f (range_with_len 0 j)) one
    ∙ (ap (flat_map f) (range_more 0 k)
    ∙ (flat_map-append f (range_with_len 0 k) ((0 + k) ∷ [])
    ∙ (ap (λ x. flat_map f (range_with_len 0 k) ++ (f x ++ [])) from
    ∙ ap (λ x. flat_map f (range_with_len 0 k) ++ x) (append-nil (f k)))))

-- the loop over rounds
pub more_rounds : {A : Type 0} (f : ℕ → List A) (k : ℕ) (before now new : List A) → now ≡ before ++ flat_map f (range_with_len 0 k) → new ≡ now ++ f k
    → new ≡ before ++ flat_map f (range_with_len 0 (k + 1))
more_rounds f k before now new so_far one =
    one
    ∙ (ap (λ xs. xs ++ f k) so_far
    ∙ (append_assoc before (flat_map f (range_with_len 0 k)) (f k)
    ∙ ap (λ xs. before ++ xs) (sym (flat_range_more f k))))

map_take : {A B : Type 0} (f : A → B) (k : ℕ) (xs : List A) → take k (map f xs) ≡ map f (take k xs)
map_take f zero xs = refl
map_take f (suc k) [] = refl
map_take f (suc k) (x ∷ xs) = ap (λ ys. f x ∷ ys) (map_take f k xs)

-- the log of the first entries, where there are some
pub one_log : (n t k : ℕ) (region : ℕ) (entries : List Entry) (first all : List Carried) → 0 < k → region ≡ child t → entries ≡ map entry_of first → first ≡ take k all → all ≡ child_entries n t
    → record { region = region; entries = entries } ∷ [] ≡ child_log n t k
one_log n t zero region entries first all some at own few is = absurd (omega arith)
one_log n t (suc k) region entries first all some at own few is =
    let one : entries ≡ take (suc k) (map entry_of (child_entries n t)) =
    own ∙ (ap (map entry_of) (few ∙ ap (take (suc k)) is) ∙ sym (map_take entry_of (suc k) (child_entries n t))) in
    ap (λ r. record { region = r; entries = entries } ∷ []) at ∙ ap (λ es. record { region = child t; entries = es } ∷ []) one
