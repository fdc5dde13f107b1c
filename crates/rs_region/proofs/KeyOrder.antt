-- The order of keys, and where a key lies that a range holds.
use Rattle.std.proofs.Common.{◌≡◌, ℕ, Bool, true, false, not, ◌&&◌, ◌||◌, List, Option, Some, None, Ordering, Less, Equal, Greater, refl, ap, sym, ◌∙◌, arith, subst}
use Rattle.std.specs.Ordering.{nat_cmp, is_lt, is_le, is_eq, ordering_reverse}
use Rattle.std.specs.Cmp.Lexicographic.{slice_cmp, nat_list_cmp_total, texts_ties}
use Rattle.std.proofs.lemmas.Bool.{and_parts}
use Rattle.rs_key.specs.Keys.{is_key, is_below}
use Rattle.rs_key.specs.Ranges.{Bounds, is_range, is_from, is_to, holds}
use Rattle.rs_key.proofs.RangeLaws.{below_trans, same_bytes_is}

le_is_not_gt : (o : Ordering) → is_le (ordering_reverse o) ≡ not (is_lt o)
le_is_not_gt Less = refl
le_is_not_gt Equal = refl
le_is_not_gt Greater = refl

-- a key isn't below the start where it isn't less
pub from_start : (start key : List ℕ) → is_from (Some start) key ≡ not (is_below key start)
from_start start key = ap is_le (nat_list_cmp_total.antisymm start key) ∙ le_is_not_gt (slice_cmp nat_cmp key start)

not_own_reverse : (o : Ordering) → o ≡ ordering_reverse o → is_lt o ≡ false
not_own_reverse Less h = absurd cc
not_own_reverse Equal h = refl
not_own_reverse Greater h = refl

pub below_irreflexive : (a : List ℕ) → is_below a a ≡ false
below_irreflexive a = not_own_reverse (slice_cmp nat_cmp a a) (nat_list_cmp_total.antisymm a a)

tied : (o p : Ordering) → o ≡ ordering_reverse p → is_lt o ≡ false → is_lt p ≡ false → is_eq o ≡ true
tied Less p h k m = absurd cc
tied Equal p h k m = refl
tied Greater Less h k m = absurd cc
tied Greater Equal h k m = absurd cc
tied Greater Greater h k m = absurd cc

pub below_total : (a b : List ℕ) → is_below a b ≡ false → is_below b a ≡ false → a ≡ b
below_total a b h k =
    same_bytes_is a b (texts_ties a b ∙ tied (slice_cmp nat_cmp a b) (slice_cmp nat_cmp b a) (nat_list_cmp_total.antisymm a b) h k)

-- where a key lies that is below the second and not below the third
pub below_from : (a b c : List ℕ) → is_below a b ≡ true → is_below c b ≡ false → is_below a c ≡ true
below_from a b c h k = go (is_below b c) refl
  where
    go : (t : Bool) → is_below b c ≡ t → is_below a c ≡ true
    go true e = below_trans a b c h e
    go false e = subst (λ (x : List ℕ). is_below a x ≡ true) (below_total b c e k) h

-- the key isn't below the start
abbrev pub not_above : Option (List ℕ) → List ℕ → Bool
not_above None key = true
not_above (Some start) key = not (is_below key start)

-- the key lies between the bounds
abbrev pub lies_in : Option (List ℕ) → Option (List ℕ) → List ℕ → Bool
lies_in start end key = not_above start key && is_to end key

from_is : (start : Option (List ℕ)) (key : List ℕ) → is_from start key ≡ not_above start key
from_is None key = refl
from_is (Some start) key = from_start start key

pub holds_is : (range : Bounds) (key : List ℕ) → holds range key ≡ (is_key key && lies_in range.start range.end key)
holds_is range key = ap (λ (b : Bool). is_key key && (b && is_to range.end key)) (from_is range.start key)

-- a range cut at a key that lies in it
pub halves : (x y : Option (List ℕ)) (m k : List ℕ) → is_range x (Some m) ≡ true → is_range (Some m) y ≡ true → lies_in x y k ≡ (lies_in x (Some m) k || lies_in (Some m) y k)
halves None None m k e f = elim (is_below k m) as (λ b. true ≡ ((true && b) || (not b && true))) [ true ↦ refl | false ↦ refl ]
halves None (Some y) m k e f = grind (arith, below_trans k m y, below_total k m, below_trans m k y)
halves (Some x) None m k e f = grind (arith, below_trans k m x, below_trans x m k, below_trans k x m, below_total k m)
halves (Some x) (Some y) m k e f = grind (arith, below_trans k m y, below_trans k x m, below_trans x m k, below_total k m)

spread : (c a b : Bool) → (c && (a || b)) ≡ ((c && a) || (c && b))
spread true a b = refl
spread false a b = refl

-- the keys of a range that is cut in two are those of the two
pub cut_in_two : (x y : Option (List ℕ)) (m : List ℕ) → is_range x (Some m) ≡ true → is_range (Some m) y ≡ true → (key : List ℕ)
    → holds (record { start = x; end = y }) key ≡ (holds (record { start = x; end = Some m }) key || holds (record { start = Some m; end = y }) key)
cut_in_two x y m e f key =
    let w : holds (record { start = x; end = y }) key ≡ (is_key key && lies_in x y key) = holds_is (record { start = x; end = y }) key in
    let l : holds (record { start = x; end = Some m }) key ≡ (is_key key && lies_in x (Some m) key) = holds_is (record { start = x; end = Some m }) key in
    let r : holds (record { start = Some m; end = y }) key ≡ (is_key key && lies_in (Some m) y key) = holds_is (record { start = Some m; end = y }) key in
    w ∙ (ap (λ (b : Bool). is_key key && b) (halves x y m key e f) ∙ (spread (is_key key) (lies_in x (Some m) key) (lies_in (Some m) y key) ∙ (ap (λ (b : Bool). b || (is_key key && lies_in (Some m) y key)) (sym l) ∙ ap (λ (b : Bool). holds (record { start = x; end = Some m }) key || b) (sym r))))

-- a key of a range that ends at a key is below it
pub is_below_end : (x : Option (List ℕ)) (m key : List ℕ) → holds (record { start = x; end = Some m }) key ≡ true → is_below key m ≡ true
is_below_end x m key h = (and_parts (is_from x key) (is_below key m) (and_parts (is_key key) (is_from x key && is_below key m) h).1).1

not_true : (b : Bool) → not b ≡ true → b ≡ false
not_true true h = absurd cc
not_true false h = refl

-- a key of a range that starts at a key isn't below it
pub not_below_start : (y : Option (List ℕ)) (m key : List ℕ) → holds (record { start = Some m; end = y }) key ≡ true → is_below key m ≡ false
not_below_start y m key h =
    not_true (is_below key m) (sym (from_start m key) ∙ (and_parts (is_from (Some m) key) (is_to y key) (and_parts (is_key key) (is_from (Some m) key && is_to y key) h).1).0)
