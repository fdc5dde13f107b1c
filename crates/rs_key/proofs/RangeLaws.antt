-- Laws of keys and bounds.
use Rattle.std.proofs.Common.{◌≡◌, ℕ, ◌<◌, List, [], ◌∷◌, length, refl, sym, ap, ◌∙◌, subst, arith, Ordering, Less, Equal, Greater}
use Rattle.std.specs.Prelude.{true, false, Bool, Option, Some, None, ◌&&◌, ◌||◌, nat_eq}
use Rattle.std.specs.Ordering.{is_lt, nat_cmp}
use Rattle.std.specs.Cmp.Lexicographic.{slice_cmp, pointwise, nat_list_cmp_total}
use Rattle.std.proofs.lemmas.Bool.{eqb-true}
use Rattle.rs_key.specs.Keys.{is_key, is_below, same_bytes}
use Rattle.rs_key.specs.Ranges.{Bounds, is_range, meets, is_next_to, is_past, is_to}

pub key_is_key : (k : List ℕ) → 0 < length k → is_key k ≡ true
key_is_key [] h = absurd (omega arith)
key_is_key (x ∷ xs) h = refl

less_of : (o : Ordering) → is_lt o ≡ true → o ≡ Less
less_of Less h = refl
less_of Equal h = absurd cc
less_of Greater h = absurd cc

first_part : (a b : Bool) → (a && b) ≡ true → a ≡ true
first_part true b h = refl
first_part false b h = absurd cc

second_part : (a b : Bool) → (a && b) ≡ true → b ≡ true
second_part true b h = h
second_part false b h = absurd cc

pub below_trans : (a b c : List ℕ) → is_below a b ≡ true → is_below b c ≡ true → is_below a c ≡ true
below_trans a b c h k = ap is_lt (nat_list_cmp_total.trans a b c (less_of (slice_cmp nat_cmp a b) h) (less_of (slice_cmp nat_cmp b c) k))

-- two keys that are found the same are one
pub same_bytes_is : (a b : List ℕ) → same_bytes a b ≡ true → a ≡ b
same_bytes_is [] [] h = refl
same_bytes_is [] (y ∷ ys) h = absurd cc
same_bytes_is (x ∷ xs) [] h = absurd cc
same_bytes_is (x ∷ xs) (y ∷ ys) h =
    let e : x ≡ y = eqb-true x y (first_part (nat_eq x y) (same_bytes xs ys) h) in
    let f : xs ≡ ys = same_bytes_is xs ys (second_part (nat_eq x y) (same_bytes xs ys) h) in
    cc

-- a range that ends where another begins, and that one, are a range together
pub joined_is_range : (s e t u : Option (List ℕ)) → is_range s e ≡ true → is_range t u ≡ true → meets e t ≡ true → is_range s u ≡ true
joined_is_range None e t u h k m = refl
joined_is_range (Some s) None t u h k m = absurd cc
joined_is_range (Some s) (Some e) None u h k m = absurd cc
joined_is_range (Some s) (Some e) (Some t) None h k m = refl
joined_is_range (Some s) (Some e) (Some t) (Some u) h k m =
    below_trans s e u h (subst (λ x. is_below x u ≡ true) (sym (same_bytes_is e t m)) k)

pub other_meets : (a b : Bool) → (a || b) ≡ true → a ≡ false → b ≡ true
other_meets true b h f = absurd cc
other_meets false b h f = h

pub past_is_range : (s : Option (List ℕ)) (k : List ℕ) → is_past s k ≡ is_range s (Some k)
past_is_range None k = refl
past_is_range (Some s) k = refl

pub to_is_range : (k : List ℕ) (e : Option (List ℕ)) → is_to e k ≡ is_range (Some k) e
to_is_range k None = refl
to_is_range k (Some e) = refl
