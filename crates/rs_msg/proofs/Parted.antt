-- Parts of a map, from left to right.
use Rattle.std.proofs.Common.{◌≡◌, ◌≤◌, ◌<◌, ℕ, zero, suc, Bool, true, false, not, List, [], ◌∷◌, ◌++◌, length, drop, get_or, slice_set, refl, ap, sym, ◌∙◌, arith, subst}
use Rattle.std.specs.List.{AllByRecursion, AllWithin, flat_map}
use Rattle.std.specs.List.Sorted.{IsPartitionedBy}
use Rattle.std.proofs.lemmas.Grind.{flat_map-append}
use Rattle.rs_key.specs.Keys.{is_below}
use Rattle.rs_key.proofs.RangeLaws.{below_trans}
use Rattle.rs_region.proofs.KeyOrder.{below_from, below_irreflexive}
use Rattle.rs_store.specs.Stores.{Wrote}
use Rattle.rs_part.specs.Items.{history_of}
use Rattle.rs_msg.specs.Maps.{Writes, AllBelow, NoneBelow, AreApart, AreParts, StartsRise, begins_by, written}
use Rattle.rs_msg.specs.declared.part.Part.{Part}
use Rattle.rs_msg.proofs.Keys.{none_of}

-- what parts have
abbrev pub later : List Part → Writes
later parts = flat_map (λ p. p.writes) parts

-- where the first part has no write, there is none
pub no_writes : (first : Writes) (parts : List Part) → (0 < length parts → 0 < length first) → length first ≡ 0 → written first parts ≡ []
no_writes [] [] led none = refl
no_writes [] (p ∷ parts) led none = absurd (omega (arith, led (omega arith)))
no_writes (w ∷ first) parts led none = absurd (omega (arith, none))

pub some_writes : (first : Writes) (parts : List Part) → written first parts ≡ [] → length first ≡ 0
some_writes [] parts none = refl
some_writes (w ∷ first) parts none = absurd (cc none)

-- a key from t on isn't below s, where a key between them lies
not_below : (s k t r : List ℕ) → is_below k s ≡ false → is_below k t ≡ true → is_below r t ≡ false → is_below r s ≡ false
not_below s k t r from to out = go (is_below r s) refl
  where
    go : (b : Bool) → is_below r s ≡ b → is_below r s ≡ false
    go true e = let h : is_below r t ≡ true = below_trans r k t (below_from r s k e from) to in absurd (cc (h, out))
    go false e = e

pub below_start : (s k t : List ℕ) → is_below k s ≡ false → is_below k t ≡ true → is_below s t ≡ true
below_start s k t from to = go (is_below s t) refl
  where
    go : (b : Bool) → is_below s t ≡ b → is_below s t ≡ true
    go true e = e
    go false e = let h : is_below k s ≡ true = below_from k t s to e in absurd (cc (h, from))

all_not_below : (s k t : List ℕ) (ws : Writes) → is_below k s ≡ false → is_below k t ≡ true → NoneBelow t ws → NoneBelow s ws
all_not_below s k t [] from to all = tt
all_not_below s k t (w ∷ ws) from to all = (not_below s k t w.key from to all.0, all_not_below s k t ws from to all.1)

pub all_both : {A : Type 0} (P : A → Type 0) (xs ys : List A) → AllByRecursion P xs → AllByRecursion P ys → AllByRecursion P (xs ++ ys)
all_both P [] ys a b = b
all_both P (x ∷ xs) ys a b = (a.0, all_both P xs ys a.1 b)

-- what is written from a start on isn't below it
pub from_start : (s : List ℕ) (first : Writes) (parts : List Part) → 0 < length first → NoneBelow s first → AreApart first parts → NoneBelow s (written first parts)
from_start s first [] some none apart = all_both (λ w. is_below w.key s ≡ false) first [] none tt
from_start s [] (p ∷ parts) some none apart = absurd (omega (arith, some))
from_start s (w ∷ ws) (p ∷ parts) some none apart =
    all_both (λ w. is_below w.key s ≡ false) (w ∷ ws) (later (p ∷ parts)) none
    (from_start s p.writes parts apart.2 (all_not_below s w.key p.start p.writes none.0 apart.0.0 apart.1) apart.3)

-- the parts begin above the key
abbrev pub AreAbove : List ℕ → List Part → Type 0
AreAbove key parts = AllByRecursion (λ p. is_below key p.start ≡ true) parts

-- and then they have nothing of it
pub nothing_later : (first : Writes) (parts : List Part) (q : List ℕ) → AreApart first parts → AreAbove q parts → history_of (later parts) q ≡ []
nothing_later first [] q apart above = refl
nothing_later first (p ∷ parts) q apart above = none_of (λ k. is_below k p.start) false (written p.writes parts) q (from_start p.start p.writes parts apart.2 apart.1 apart.3) above.0

above_all : (key : List ℕ) (parts : List Part) → AllWithin (λ p. begins_by key p ≡ false) parts 0 (length parts) → AreAbove key parts
above_all key [] all = tt
above_all key (p ∷ parts) all = (go (is_below key p.start) refl (all 0 p (omega arith) (omega arith)), above_all key parts (λ k d low high. all (suc k) d (omega arith) (omega (arith, high))))
  where
    go : (b : Bool) → is_below key p.start ≡ b → not (is_below key p.start) ≡ false → is_below key p.start ≡ true
    go true e f = e
    go false e f = absurd (cc (f, ap not e))

-- those behind the place of a key
pub above_behind : (key : List ℕ) (parts : List Part) (n : ℕ) → AllWithin (λ p. begins_by key p ≡ false) parts n (length parts) → AreAbove key (drop n parts)
above_behind key parts zero all = above_all key parts all
above_behind key [] (suc n) all = tt
above_behind key (p ∷ parts) (suc n) all = above_behind key parts n (λ k d low high. all (suc k) d (omega (arith, low)) (omega (arith, high)))

-- ---- starts

starts_behind : (s : List ℕ) (first : Writes) (parts : List Part) → 0 < length first → NoneBelow s first → AreApart first parts → AllByRecursion (λ r. is_below s r.start ≡ true) parts
starts_behind s first [] some none apart = tt
starts_behind s [] (p ∷ parts) some none apart = absurd (omega (arith, some))
starts_behind s (w ∷ ws) (p ∷ parts) some none apart = (
  below_start s w.key p.start none.0 apart.0.0,
  starts_behind s p.writes parts apart.2 (all_not_below s w.key p.start p.writes none.0 apart.0.0 apart.1) apart.3,
)

pub starts_rise : (first : Writes) (parts : List Part) → AreApart first parts → StartsRise parts
starts_rise first [] apart = tt
starts_rise first (p ∷ parts) apart = (starts_behind p.start p.writes parts apart.2 apart.1 apart.3, starts_rise p.writes parts apart.3)

lower_too : (q s t : List ℕ) → is_below s t ≡ true → not (is_below q t) ≡ true → not (is_below q s) ≡ true
lower_too q s t lower from = go (is_below q s) refl (is_below q t) refl
  where
    go : (b : Bool) → is_below q s ≡ b → (c : Bool) → is_below q t ≡ c → not (is_below q s) ≡ true
    go true e c f = let h : is_below q t ≡ true = below_trans q s t e lower in absurd (cc (h, from))
    go false e c f = ap not e

nth : (P : Part → Type 0) (parts : List Part) (j : ℕ) (d : Part) → j < length parts → AllByRecursion P parts → P (get_or parts j d)
nth P [] j d there all = absurd (omega (arith, there))
nth P (p ∷ parts) zero d there all = all.0
nth P (p ∷ parts) (suc j) d there all = nth P parts j d (omega (arith, there)) all.1

-- a part that begins by the key has before it only such parts
pub parts_begin : (q : List ℕ) (parts : List Part) → StartsRise parts → IsPartitionedBy (begins_by q) parts
parts_begin q [] rise i j d le lt p = absurd (omega (arith, lt))
parts_begin q (x ∷ parts) rise zero zero d le lt p = p
parts_begin q (x ∷ parts) rise zero (suc j) d le lt p = lower_too q x.start (get_or parts j d).start (nth (λ r. is_below x.start r.start ≡ true) parts j d (omega (arith, lt)) rise.0) p
parts_begin q (x ∷ parts) rise (suc i) zero d le lt p = absurd (omega (arith, le))
parts_begin q (x ∷ parts) rise (suc i) (suc j) d le lt p = parts_begin q parts rise.1 i j d (omega (arith, le)) (omega (arith, lt)) p

-- ---- what a search by a key has told

pub seen_above : (key own : List ℕ) (seen parts : List Part) (n : ℕ) → key ≡ own → seen ≡ parts → AllWithin (λ p. begins_by key p ≡ false) seen n (length seen) → AreAbove own (drop n parts)
seen_above key own seen parts n same is all = subst (λ k. AreAbove k (drop n parts)) same (subst (λ l. AreAbove key (drop n l)) is (above_behind key seen n all))

pub seen_begins : (key own : List ℕ) (seen parts : List Part) (n i : ℕ) (d : Part) → key ≡ own → seen ≡ parts → AllWithin (λ p. begins_by key p ≡ true) seen 0 n → i < n → d ≡ get_or parts i d → begins_by own d ≡ true
seen_begins key own seen parts n i d same is all below here =
    subst (λ k. begins_by k d ≡ true) same (subst (λ x. begins_by key x ≡ true) (ap (λ l. get_or l i d) is ∙ sym here) (all i d (omega arith) below))

pub set_same : (parts : List Part) (i : ℕ) (d : Part) → d ≡ get_or parts i d → slice_set parts i d ≡ parts
set_same [] i d is = refl
set_same (p ∷ parts) zero d is = ap (λ x. x ∷ parts) is
set_same (p ∷ parts) (suc i) d is = ap (λ l. p ∷ l) (set_same parts i d is)

-- ---- the first part

pub led : (first : Writes) (parts : List Part) → (0 < length parts → 0 < length first) → (written first parts ≡ [] → ⊥) → 0 < length first
led [] parts lead some = absurd (some (no_writes [] parts lead refl))
led (w ∷ first) parts lead some = omega arith

pub one_there : (left : List Part) (p : Part) (right : List Part) → 0 < length (left ++ p ∷ right)
one_there [] p right = omega arith
one_there (x ∷ left) p right = omega arith
