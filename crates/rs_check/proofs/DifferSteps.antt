-- One step of the pass over statements.
use Rattle.std.proofs.Common.{◌≡◌, ℕ, ◌+◌, ◌<◌, suc, zero, refl, sym, ap, ◌∙◌, List, [], ◌∷◌, ◌++◌, length, get_or, take, drop, arith}
use Rattle.std.specs.Prelude.{Bool, true, false, Option, Some, None, ◌==◌, ◌&&◌, if◌then◌else◌, slice_get}
use Rattle.std.specs.List.{find}
use Rattle.std.specs.Option.{option_or}
use Rattle.std.proofs.lemmas.Bool.{eqb-true}
use Rattle.std.proofs.lemmas.List.Folds.{find-append}
use Rattle.rs_store.specs.Stores.{first_some}
use Rattle.rs_store.specs.Places.{Places, with_place}
use Rattle.rs_check.specs.Statements.{Stated, same_statements, is_about, differ_from, first_differ, at_place}

take_at : (xs : List Stated) (i : ℕ) (s : Stated) → slice_get xs i ≡ Some s → take (suc i) xs ≡ take i xs ++ s ∷ []
take_at [] i s h = absurd cc
take_at (x ∷ xs) zero s h = let e : x ≡ s = cc in ap (λ y. y ∷ []) e
take_at (x ∷ xs) (suc i) s h = ap (λ ys. x ∷ ys) (take_at xs i s h)

drop_at : (xs : List Stated) (i : ℕ) (s : Stated) → slice_get xs i ≡ Some s → drop i xs ≡ s ∷ drop (suc i) xs
drop_at [] i s h = absurd cc
drop_at (x ∷ xs) zero s h = let e : x ≡ s = cc in ap (λ y. y ∷ xs) e
drop_at (x ∷ xs) (suc i) s h = drop_at xs i s h

first_part : (a b : Bool) → (a && b) ≡ true → a ≡ true
first_part true b h = refl
first_part false b h = absurd cc

second_part : (a b : Bool) → (a && b) ≡ true → b ≡ true
second_part true b h = h
second_part false b h = absurd cc

or_none : (o : Option Stated) → option_or o None ≡ o
or_none None = refl
or_none (Some x) = refl

find_one : (p : Stated → Bool) (s : Stated) (b : Bool) → p s ≡ b → find p (s ∷ []) ≡ (if b then Some s else None)
find_one p s true e = rw e refl
find_one p s false e = rw e refl

module _ (all : List Stated) (f : Places) (i : ℕ) (s : Stated) (here : slice_get all i ≡ Some s)
    (places : (r x : ℕ) → at_place all (f r x) ≡ find (is_about r x) (take i all)) where
  found_more : (r x : ℕ) (b : Bool) → is_about r x s ≡ b → find (is_about r x) (take (i + 1) all) ≡ option_or (at_place all (f r x)) (if b then Some s else None)
  found_more r x b e =
      let one : i + 1 ≡ suc i = omega arith in
      ap (λ n. find (is_about r x) (take n all)) one
      ∙ (ap (find (is_about r x)) (take_at all i s here)
      ∙ (find-append (is_about r x) (take i all) (s ∷ [])
      ∙ (ap (λ o. option_or o (find (is_about r x) (s ∷ []))) (sym (places r x))
      ∙ ap (option_or (at_place all (f r x))) (find_one (is_about r x) s b e))))

  same_key : (r x : ℕ) → is_about r x s ≡ true → f r x ≡ f s.region s.index
  same_key r x e =
      let p : s.region ≡ r = eqb-true s.region r (first_part (s.region == r) (s.index == x) e) in
      let q : s.index ≡ x = eqb-true s.index x (second_part (s.region == r) (s.index == x) e) in
      cc

  -- a statement about something new
  pub places_put : f s.region s.index ≡ None → (r x : ℕ) → at_place all (with_place f s.region s.index i r x) ≡ find (is_about r x) (take (i + 1) all)
  places_put none r x = go (is_about r x s) refl where
    go : (b : Bool) → is_about r x s ≡ b → at_place all (if b then Some i else f r x) ≡ find (is_about r x) (take (i + 1) all)
    go true e = let n : f r x ≡ None = same_key r x e ∙ none in here ∙ sym (found_more r x true e ∙ ap (λ o. option_or (at_place all o) (Some s)) n)
    go false e = sym (found_more r x false e ∙ or_none (at_place all (f r x)))

  pub places_kept : (t : Stated) → at_place all (f s.region s.index) ≡ Some t → (r x : ℕ) → at_place all (f r x) ≡ find (is_about r x) (take (i + 1) all)
  places_kept t there r x = go (is_about r x s) refl where
    go : (b : Bool) → is_about r x s ≡ b → at_place all (f r x) ≡ find (is_about r x) (take (i + 1) all)
    go true e = let n : at_place all (f r x) ≡ Some t = ap (at_place all) (same_key r x e) ∙ there in n ∙ sym (found_more r x true e ∙ ap (λ o. option_or o (Some s)) n)
    go false e = sym (found_more r x false e ∙ or_none (at_place all (f r x)))

  one_more : first_differ (take i all) (drop i all) ≡ first_some (differ_from (at_place all (f s.region s.index)) s) (first_differ (take (i + 1) all) (drop (i + 1) all))
  one_more =
      let one : suc i ≡ i + 1 = omega arith in
      ap (first_differ (take i all)) (drop_at all i s here)
      ∙ (ap (λ o. first_some (differ_from o s) (first_differ (take i all ++ s ∷ []) (drop (suc i) all))) (sym (places s.region s.index))
      ∙ (ap (λ xs. first_some (differ_from (at_place all (f s.region s.index)) s) (first_differ xs (drop (suc i) all))) (sym (take_at all i s here))
      ∙ ap (λ n. first_some (differ_from (at_place all (f s.region s.index)) s) (first_differ (take n all) (drop n all))) one))

  pub far_new : f s.region s.index ≡ None → first_differ (take i all) (drop i all) ≡ first_differ (take (i + 1) all) (drop (i + 1) all)
  far_new none = one_more ∙ ap (λ o. first_some (differ_from (at_place all o) s) (first_differ (take (i + 1) all) (drop (i + 1) all))) none

  differ_one : (t : Stated) (b : Bool) → same_statements t.what s.what ≡ b → differ_from (Some t) s ≡ (if b then None else Some (t, s))
  differ_one t true e = rw e refl
  differ_one t false e = rw e refl

  pub far_same : (t : Stated) → at_place all (f s.region s.index) ≡ Some t → same_statements t.what s.what ≡ true → first_differ (take i all) (drop i all) ≡ first_differ (take (i + 1) all) (drop (i + 1) all)
  far_same t there e = one_more ∙ (ap (λ o. first_some (differ_from o s) (first_differ (take (i + 1) all) (drop (i + 1) all))) there
      ∙ ap (λ o. first_some o (first_differ (take (i + 1) all) (drop (i + 1) all))) (differ_one t true e))

  pub far_differs : (t : Stated) → at_place all (f s.region s.index) ≡ Some t → same_statements t.what s.what ≡ false → first_differ (take i all) (drop i all) ≡ Some (t, s)
  far_differs t there e = one_more ∙ (ap (λ o. first_some (differ_from o s) (first_differ (take (i + 1) all) (drop (i + 1) all))) there
      ∙ ap (λ o. first_some o (first_differ (take (i + 1) all) (drop (i + 1) all))) (differ_one t false e))

pub slice_here : (xs : List Stated) (i : ℕ) (x : Stated) → i < length xs → x ≡ get_or xs i x → slice_get xs i ≡ Some x
slice_here [] i x h e = absurd (omega arith)
slice_here (y ∷ ys) zero x h e = ap (λ z. Some z) (sym e)
slice_here (y ∷ ys) (suc i) x h e = slice_here ys i x (omega arith) e

-- the first i statements are placed: each is found about what it says first
pub record Placed (all : List Stated) (f : Places) (i : ℕ) : Type 0 where
  pub places : (r x : ℕ) → at_place all (f r x) ≡ find (is_about r x) (take i all)
  pub below : (r x k : ℕ) → f r x ≡ Some k → k < i

pub placed_below : (f : Places) (region index place : ℕ) → ((r x k : ℕ) → f r x ≡ Some k → k < place) → (r x k : ℕ) → with_place f region index place r x ≡ Some k → k < place + 1
placed_below f region index place below r x k h = go ((region == r) && (index == x)) h where
  go : (b : Bool) → (if b then Some place else f r x) ≡ Some k → k < place + 1
  go true e = let q : place ≡ k = cc in omega arith
  go false e = let q = below r x k e in omega arith
