-- A split shares a range out: what is kept and what the new regions take.
use Rattle.std.proofs.Common.{◌≡◌, ℕ, ◌+◌, Bool, true, false, ◌||◌, List, [], ◌∷◌, length, refl, ap, ◌∙◌, arith}
use Rattle.std.specs.List.{AllByRecursion, zip}
use Rattle.rs_key.specs.Ranges.{Bounds, holds, cut}
use Rattle.rs_entry.specs.declared.entry.Side.{Side}
use Rattle.rs_entry.specs.declared.entry.Side.TheVariants as side
use Rattle.rs_region.specs.Reshapings.{last_of, kept_range, shares}
use Rattle.rs_region.specs.Laws.{Rises, IsInside, AreApart, EachToLater, some_holds, ranges_of, IsParted, IsShared, SplitShares}
use Rattle.rs_region.proofs.CutParts.{cut_parts, cut_counts}

last_all : (P : Bounds → Type 0) (d x : Bounds) (xs : List Bounds) → AllByRecursion P (x ∷ xs) → P (last_of d (x ∷ xs))
last_all P d x [] h = h.0
last_all P d x (y ∷ ys) h = last_all P x y ys h.1

zip_all : (P : Bounds → Type 0) (ids : List ℕ) (xs : List Bounds) → AllByRecursion P xs → AllByRecursion P (ranges_of (zip ids xs))
zip_all P [] xs h = tt
zip_all P (i ∷ ids) [] h = tt
zip_all P (i ∷ ids) (x ∷ xs) h = (h.0, zip_all P ids xs h.1)

zip_apart : (ids : List ℕ) (xs : List Bounds) → EachToLater AreApart xs → EachToLater AreApart (ranges_of (zip ids xs))
zip_apart [] xs h = tt
zip_apart (i ∷ ids) [] h = tt
zip_apart (i ∷ ids) (x ∷ xs) h = (zip_all (AreApart x) ids xs h.0, zip_apart ids xs h.1)

-- the last range is apart from those before it
last_apart : (ids : List ℕ) (d x : Bounds) (xs : List Bounds) → EachToLater AreApart (x ∷ xs) → length ids ≡ length xs
    → AllByRecursion (AreApart (last_of d (x ∷ xs))) (ranges_of (zip ids (x ∷ xs)))
last_apart [] d x xs h e = tt
last_apart (i ∷ ids) d x [] h e = absurd (omega arith)
last_apart (i ∷ ids) d x (y ∷ ys) h e =
    ((λ k a b. last_all (AreApart x) x y ys h.0 k b a), last_apart ids x y ys h.1 (omega arith))

or_turn : (a b c : Bool) → (a || (b || c)) ≡ (b || (a || c))
or_turn true true c = refl
or_turn true false c = refl
or_turn false true c = refl
or_turn false false c = refl

or_false : (b : Bool) → (b || false) ≡ b
or_false true = refl
or_false false = refl

-- the last range and those before it hold what all hold
last_holds : (key : List ℕ) (ids : List ℕ) (d x : Bounds) (xs : List Bounds) → length ids ≡ length xs
    → some_holds (x ∷ xs) key ≡ (holds (last_of d (x ∷ xs)) key || some_holds (ranges_of (zip ids (x ∷ xs))) key)
last_holds key [] d x [] e = refl
last_holds key [] d x (y ∷ ys) e = absurd (omega arith)
last_holds key (i ∷ ids) d x [] e = absurd (omega arith)
last_holds key (i ∷ ids) d x (y ∷ ys) e =
    ap (λ (b : Bool). holds x key || b) (last_holds key ids x y ys (omega arith)) ∙ or_turn (holds x key) (holds (last_of x (y ∷ ys)) key) (some_holds (ranges_of (zip ids (y ∷ ys))) key)

-- as many ranges as ids: all are taken
zip_holds : (key : List ℕ) (ids : List ℕ) (xs : List Bounds) → length ids ≡ length xs → some_holds xs key ≡ some_holds (ranges_of (zip ids xs)) key
zip_holds key [] [] e = refl
zip_holds key [] (x ∷ xs) e = absurd (omega arith)
zip_holds key (i ∷ ids) [] e = absurd (omega arith)
zip_holds key (i ∷ ids) (x ∷ xs) e = ap (λ (b : Bool). holds x key || b) (zip_holds key ids xs (omega arith))

shared_by : (s : Side) (ids : List ℕ) (whole x : Bounds) (xs : List Bounds) → IsParted whole (x ∷ xs) → length ids ≡ length xs
    → IsShared whole (kept_range s whole (x ∷ xs)) (ranges_of (shares s ids (x ∷ xs)))
shared_by side.Right ids whole x xs p e = record {
  kept_rises = last_all Rises whole x xs p.rise;
  kept_inside = last_all (λ q. IsInside q whole) whole x xs p.inside;
  rise = zip_all Rises ids (x ∷ xs) p.rise;
  inside = zip_all (λ q. IsInside q whole) ids (x ∷ xs) p.inside;
  kept_apart = last_apart ids whole x xs p.apart e;
  apart = zip_apart ids (x ∷ xs) p.apart;
  none_lost = λ key. p.none_lost key ∙ last_holds key ids whole x xs e;
}
shared_by side.Left ids whole x xs p e = record {
  kept_rises = p.rise.0;
  kept_inside = p.inside.0;
  rise = zip_all Rises ids xs p.rise.1;
  inside = zip_all (λ q. IsInside q whole) ids xs p.inside.1;
  kept_apart = zip_all (AreApart x) ids xs p.apart.0;
  apart = zip_apart ids xs p.apart.1;
  none_lost = λ key. p.none_lost key ∙ ap (λ (b : Bool). holds x key || b) (zip_holds key ids xs e);
}

pub split_shares : SplitShares
split_shares s ids whole keys rises good same = go (cut whole keys) (cut_parts whole keys rises good) (cut_counts whole keys)
  where
    go : (parts : List Bounds) → IsParted whole parts → length parts ≡ length keys + 1 → IsShared whole (kept_range s whole parts) (ranges_of (shares s ids parts))
    go [] p n = absurd (omega arith)
    go (x ∷ xs) p n = shared_by s ids whole x xs p (omega arith)
