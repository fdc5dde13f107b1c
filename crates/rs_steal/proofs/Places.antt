-- The passes of a new scheduler stand in a round.
use Rattle.std.proofs.Common.{◌≡◌, ℕ, suc, ◌+◌, ◌<◌, List, [], ◌∷◌, ◌++◌, All, length, map, take, drop, get_or, set, sym, ap, ◌∙◌, subst, ⊎_elim, arith}
use Rattle.std.specs.List.{remove, AllWithin}
use Rattle.std.proofs.Math.Seq.{take-add, drop-cons}
use Rattle.std.proofs.lemmas.List.{drop-drop, take_all, length-map, length-set, get_or-map, get_or-set_other}
use mathlib.Core.Option.{some}
use lib.ListN.{get_elem?}
use Rattle.atomic_table.proofs.Lists.{at_map}
use Rattle.rs_steal.specs.declared.steal_pass.StealPass.{StealPass}
use Rattle.rs_steal.specs.Deques.{own_deque, placed, from_place, AreInRound}
use Rattle.rs_steal.proofs.Shares.{at_end}

module _ {A : Type 0} where
  -- the first of a list, and the others
  pub headed : (xs : List A) (x : A) → 0 < length xs → x ≡ get_or xs 0 x → xs ≡ x ∷ remove xs 0
  headed [] x some_are at = absurd (omega arith)
  headed (y ∷ ys) x some_are at = ap (λ z. z ∷ ys) (sym at)

  pub others : (P : A → Type 0) (x : A) (xs : List A) → All P (x ∷ xs) → All P xs
  others P x xs all k d less = all (suc k) d (omega arith)

  pub drop_next : (n : ℕ) (ds : List A) (d : A) (rest : List A) → d ∷ rest ≡ drop n ds → rest ≡ drop (n + 1) ds
  drop_next n ds d rest cut = ap (drop 1) cut ∙ drop-drop 1 n ds

  pub take_next : (n : ℕ) (ds : List A) (d : A) (rest : List A) → d ∷ rest ≡ drop n ds → take n ds ++ d ∷ [] ≡ take (n + 1) ds
  take_next n ds d rest cut = ap (λ l. take n ds ++ take 1 l) cut ∙ sym (take-add n 1 ds)

  -- a write at a place leaves what holds of those after it
  pub after_kept : (P : A → Type 0) (xs : List A) (k : ℕ) (y : A) → AllWithin P xs k (length xs) → AllWithin P (set xs k y) (k + 1) (length (set xs k y))
  after_kept P xs k y all j d low less = subst P (sym (get_or-set_other xs k j y d (λ e. omega (arith, e, low)))) (all j d (omega (arith, low)) (omega (arith, less, length-set xs k y)))

-- one more element, seen through f
pub take_seen : {A : Type 0} (f : A → ℕ) (xs : List A) (k : ℕ) (x : A) (ds : List ℕ) → k < length xs → x ≡ get_or xs k x → map f xs ≡ ds → take k ds ++ f x ∷ [] ≡ take (k + 1) ds
take_seen f xs k x ds within at same =
    let there : get_or ds k (f x) ≡ f x = sym (ap (λ l. get_or l k (f x)) same) ∙ get_or-map f xs k x (f x) within ∙ sym (ap f at) in
    take_next k ds (f x) (drop (suc k) ds) (sym (drop-cons ds k (f x) (let a = length-map xs f in let b = ap length same in omega (arith, a, b, within)) ∙ ap (λ d. d ∷ drop (suc k) ds) there))

abbrev pub at_place : ℕ → List ℕ → ℕ × List ℕ
at_place k ds = (k, ds)

-- the pass at each place has the deques from there round
abbrev pub InPlaces : List ℕ → List (ℕ × List ℕ) → Type 0
InPlaces ds xs = (k : ℕ) (x : ℕ × List ℕ) → get_elem? xs k ≡ some x → x ≡ at_place k (from_place k ds)

pub in_places_push : (ds : List ℕ) (xs : List (ℕ × List ℕ)) (y : ℕ × List ℕ) → InPlaces ds xs → y ≡ at_place (length xs) (from_place (length xs) ds) → InPlaces ds (xs ++ y ∷ [])
in_places_push ds xs y all is k x at = ⊎_elim (λ old. all k x old)
    (λ (new : (k ≡ length xs) × (y ≡ x)). sym new.1 ∙ is ∙ ap (λ n. at_place n (from_place n ds)) (sym new.0)) (at_end xs y k x at)

pub round : (n : ℕ) (ds : List ℕ) (ps : List StealPass) → length ds ≡ n → map own_deque ps ≡ take n ds → InPlaces ds (map placed ps) → AreInRound ps
round n ds ps long own all k p at =
    let is = all k (placed p) (at_map placed ps k p at) in
    let same : map own_deque ps ≡ ds = own ∙ take_all n ds (omega (arith, long)) in
    (ap (λ x. x.0) is, ap (λ x. x.1) is ∙ ap (from_place k) (sym same))
