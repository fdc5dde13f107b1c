-- The ranges of a good cut lie inside the range, in order and apart, and lose no key.
use Rattle.std.proofs.Common.{◌≡◌, ℕ, suc, ◌+◌, Bool, true, false, ◌&&◌, ◌||◌, List, [], ◌∷◌, length, Option, Some, None, refl, ap, sym, ◌∙◌, arith}
use Rattle.std.specs.List.{AllByRecursion}
use Rattle.std.proofs.lemmas.Bool.{and_parts, or_left, or_right}
use Rattle.rs_key.specs.Ranges.{Bounds, is_range, is_to, is_past, holds, bad_cut_from, cut_from}
use Rattle.rs_key.proofs.RangeLaws.{past_is_range, to_is_range}
use Rattle.rs_region.specs.Laws.{IsInside, AreApart, IsBefore, EachToLater, IsParted, CutParts, CutCounts}
use Rattle.rs_region.proofs.KeyOrder.{below_irreflexive, below_from, cut_in_two, is_below_end, not_below_start}

pub all_map : {A : Type 0} (P Q : A → Type 0) → ((x : A) → P x → Q x) → (xs : List A) → AllByRecursion P xs → AllByRecursion Q xs
all_map P Q f [] h = tt
all_map P Q f (x ∷ xs) h = (f x h.0, all_map P Q f xs h.1)

pub before_apart : (a b : Bounds) → IsBefore a b → AreApart a b
before_apart a b before key h k = absurd (let e : true ≡ false = sym (before key key h k) ∙ below_irreflexive key in cc)

each_apart : (rs : List Bounds) → EachToLater IsBefore rs → EachToLater AreApart rs
each_apart [] h = tt
each_apart (r ∷ rs) h = (all_map (IsBefore r) (AreApart r) (before_apart r) rs h.0, each_apart rs h.1)

-- the cut with one key more: a first range that ends at the key, and the parts of the rest
joins : (start end : Option (List ℕ)) (k : List ℕ) (rest : List Bounds) → is_range start (Some k) ≡ true → is_range (Some k) end ≡ true
    → IsParted (record { start = Some k; end = end }) rest → IsParted (record { start = start; end = end }) (record { start = start; end = Some k } ∷ rest)
joins start end k rest left right parted =
    let whole : Bounds = record { start = start; end = end } in
    let first : Bounds = record { start = start; end = Some k } in
    let second : Bounds = record { start = Some k; end = end } in
    let both : (key : List ℕ) → holds whole key ≡ (holds first key || holds second key) = cut_in_two start end k left right in
    let before : EachToLater IsBefore (first ∷ rest) = (
      all_map (λ p. IsInside p second) (IsBefore first) (λ p inside key other h m. below_from key k other (is_below_end start k key h) (not_below_start end k other (inside other m))) rest parted.inside,
      parted.in_order,
    ) in
    record {
      rise = (left, parted.rise);
      inside = (
        (λ key h. both key ∙ or_left (holds first key) (holds second key) h),
        all_map (λ p. IsInside p second) (λ p. IsInside p whole) (λ p inside key h. both key ∙ or_right (holds first key) (holds second key) (inside key h)) rest parted.inside,
      );
      in_order = before;
      apart = each_apart (first ∷ rest) before;
      none_lost = λ key. both key ∙ ap (λ (b : Bool). holds first key || b) (parted.none_lost key);
    }

or_false : (b : Bool) → b ≡ (b || false)
or_false true = refl
or_false false = refl

parts_from : (ks : List (List ℕ)) (place : ℕ) (start end : Option (List ℕ)) → is_range start end ≡ true → bad_cut_from place start end ks ≡ None
    → IsParted (record { start = start; end = end }) (cut_from start end ks)
parts_from [] place start end s e = record {
  rise = (s, tt);
  inside = ((λ key h. h), tt);
  in_order = (tt, tt);
  apart = (tt, tt);
  none_lost = λ key. or_false (holds (record { start = start; end = end }) key);
}
parts_from (k ∷ ks) place start end s e = go (is_past start k && is_to end k) refl (parts_from ks (suc place) (Some k) end)
  where
    go : (b : Bool) → (is_past start k && is_to end k) ≡ b
        → (is_range (Some k) end ≡ true → bad_cut_from (suc place) (Some k) end ks ≡ None → IsParted (record { start = Some k; end = end }) (cut_from (Some k) end ks))
        → IsParted (record { start = start; end = end }) (cut_from start end (k ∷ ks))
    go false h rest = absurd (grind (arith, h, e))
    go true h rest =
        let left : is_range start (Some k) ≡ true = sym (past_is_range start k) ∙ (and_parts (is_past start k) (is_to end k) h).0 in
        let right : is_range (Some k) end ≡ true = sym (to_is_range k end) ∙ (and_parts (is_past start k) (is_to end k) h).1 in
        joins start end k (cut_from (Some k) end ks) left right (rest right (grind (arith, h, e)))

pub cut_parts : CutParts
cut_parts range keys s e = parts_from keys 1 range.start range.end s e

counts_from : (start end : Option (List ℕ)) (ks : List (List ℕ)) → length (cut_from start end ks) ≡ length ks + 1
counts_from start end [] = refl
counts_from start end (k ∷ ks) = let h : length (cut_from (Some k) end ks) ≡ length ks + 1 = counts_from (Some k) end ks in omega arith

pub cut_counts : CutCounts
cut_counts range keys = counts_from range.start range.end keys
