-- Where the test finds no shared key, no key lies in both ranges.
use Rattle.std.proofs.Common.{◌≡◌, ℕ, ◌==◌, Bool, true, false, not, ◌&&◌, List, [], ◌∷◌, Option, Some, None, refl, ap, sym, ◌∙◌, if◌then◌else◌, Equal, Greater, arith}
use Rattle.std.proofs.lemmas.Bool.{both_ways, and_parts, and_from, not-true, le-ltb}
use Rattle.std.proofs.Math.Bool.{and_comm}
use Rattle.std.specs.Ordering.{nat_cmp, is_lt, ordering_then}
use Rattle.std.specs.Cmp.Lexicographic.{slice_cmp}
use Rattle.rs_key.specs.Keys.{is_below, is_key}
use Rattle.rs_key.specs.Ranges.{Bounds, holds, is_to}
use Rattle.rs_key.proofs.RangeLaws.{below_trans}
use Rattle.rs_region.proofs.KeyOrder.{below_irreflexive, below_total, not_above, lies_in, holds_is}
use Rattle.rs_part.specs.Ranges.{Apart}
use Rattle.rs_check.specs.Laws.{or_least, share_a_key}
use Rattle.rs_check.specs.Overlaps.{IsBound}
use Rattle.rs_check.proofs.Finding.{or_none}

no_less : (xs : List ℕ) → is_lt (slice_cmp nat_cmp xs []) ≡ false
no_less [] = refl
no_less (x ∷ xs) = refl

not_less : (b : Bool) (xs : List ℕ) → is_lt (ordering_then (if b then Equal else Greater) (slice_cmp nat_cmp xs [])) ≡ false
not_less true xs = no_less xs
not_less false xs = refl

-- no key is below the key of one byte 0
least_not_above : (k : List ℕ) → is_key k ≡ true → is_below k (0 ∷ []) ≡ false
least_not_above [] e = absurd cc
least_not_above (x ∷ xs) e = rw (le-ltb x 0 (omega arith)) (not_less (x == 0) xs)

-- no key from a start on is below the first
first_least : (start : Option (List ℕ)) (k : List ℕ) → is_key k ≡ true → not_above start k ≡ true → is_below k (or_least start) ≡ false
first_least None k e h = least_not_above k e
first_least (Some s) k e h = not-true (is_below k s) h

first_is_key : (start : Option (List ℕ)) → IsBound start → is_key (or_least start) ≡ true
first_is_key None e = refl
first_is_key (Some s) e = e

from_first : (start : Option (List ℕ)) (k : List ℕ) → is_below k (or_least start) ≡ false → not_above start k ≡ true
from_first None k h = refl
from_first (Some s) k h = ap not h

-- a key that isn't above another is below each end that the other is below
stays_below : (f k : List ℕ) (end : Option (List ℕ)) → is_below k f ≡ false → is_to end k ≡ true → is_to end f ≡ true
stays_below f k None h e = refl
stays_below f k (Some b) h e = go (is_below f k) refl where
  go : (c : Bool) → is_below f k ≡ c → is_below f b ≡ true
  go true c = below_trans f k b c e
  go false c = let same : f ≡ k = below_total f k c h in ap (λ z. is_below z b) same ∙ e

-- what a key in a range is
record Lies (range : Bounds) (k : List ℕ) : Type 0 where
  pub key : is_key k ≡ true
  pub from : not_above range.start k ≡ true
  pub to : is_to range.end k ≡ true

lies : (range : Bounds) (k : List ℕ) → holds range k ≡ true → Lies range k
lies range k h =
    let p = and_parts (is_key k) (lies_in range.start range.end k) (sym (holds_is range k) ∙ h) in
    let q = and_parts (not_above range.start k) (is_to range.end k) p.1 in
    record { key = p.0; from = q.0; to = q.1 }

holds_from : (range : Bounds) (k : List ℕ) → Lies range k → holds range k ≡ true
holds_from range k l =
    holds_is range k ∙ and_from (is_key k) (lies_in range.start range.end k) l.key (and_from (not_above range.start k) (is_to range.end k) l.from l.to)

-- where a key lies in both, so does the first of the one that doesn't start below the other
shared_first : (a b : Bounds) (k : List ℕ) → IsBound b.start → holds a k ≡ true → holds b k ≡ true → is_below (or_least b.start) (or_least a.start) ≡ false
    → (holds a (or_least b.start) && holds b (or_least b.start)) ≡ true
shared_first a b k bound ha hb order =
    let f : List ℕ = or_least b.start in
    let la = lies a k ha in
    let lb = lies b k hb in
    let least : is_below k f ≡ false = first_least b.start k la.key lb.from in
    let key : is_key f ≡ true = first_is_key b.start bound in
    and_from (holds a f) (holds b f)
    (holds_from a f (record { key = key; from = from_first a.start f order; to = stays_below f k a.end least la.to }))
    (holds_from b f (record { key = key; from = from_first b.start f (below_irreflexive f); to = stays_below f k b.end least lb.to }))

not_both_below : (a b : List ℕ) → is_below a b ≡ true → is_below b a ≡ false
not_both_below a b h = go (is_below b a) refl where
  go : (c : Bool) → is_below b a ≡ c → is_below b a ≡ false
  go false c = c
  go true c = absurd (both_ways (is_below a a) (below_irreflexive a) (below_trans a b a h c))

-- where the test finds no shared key, the ranges are apart
pub apart_of : (a b : Bounds) → IsBound a.start → IsBound b.start → share_a_key a b ≡ false → Apart a b
apart_of a b ba bb none k ha hb = go (is_below g f) refl where
  f : List ℕ
  f = or_least a.start

  g : List ℕ
  g = or_least b.start

  parts : ((holds a g && holds b g) ≡ false) × ((holds a f && holds b f) ≡ false)
  parts = or_none (holds a g && holds b g) (holds a f && holds b f) none

  go : (c : Bool) → is_below g f ≡ c → ⊥
  go false c = both_ways (holds a g && holds b g) parts.0 (shared_first a b k bb ha hb c)
  go true c = both_ways (holds a f && holds b f) parts.1 (and_comm (holds a f) (holds b f) ∙ shared_first b a k ba hb ha (not_both_below g f c))
