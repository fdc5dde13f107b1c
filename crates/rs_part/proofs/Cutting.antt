-- The new regions of a split.
use Rattle.std.proofs.Common.{◌≡◌, ℕ, ◌==◌, Bool, true, false, cond, List, [], ◌∷◌, map, Some, refl, ap, ◌∙◌}
use Rattle.std.specs.List.{AllByRecursion, find, zip}
use Rattle.std.proofs.lemmas.Bool.{eq-eqb, ne_eqb}
use Rattle.rs_key.specs.Ranges.{Bounds}
use Rattle.rs_key.specs.declared.epoch.Epoch.{Epoch}
use Rattle.rs_entry.specs.declared.outcome.Mode.TheVariants as mode
use Rattle.rs_region.specs.Laws.{AreApart, EachToLater, ranges_of}
use Rattle.rs_region.specs.Reshapings.{new_region}
use Rattle.rs_region.specs.declared.state.RegionState.{RegionState}
use Rattle.rs_part.specs.Ranges.{EachId, EachOther, StatesApart}

-- of two facts of each element follows a third
pub all_both : {A : Type 0} (P Q R : A → Type 0) → ((x : A) → P x → Q x → R x) → (xs : List A) → AllByRecursion P xs → AllByRecursion Q xs → AllByRecursion R xs
all_both P Q R f [] p q = tt
all_both P Q R f (x ∷ xs) p q = (f x p.0 q.0, all_both P Q R f xs p.1 q.1)

-- what holds of the ranges holds of the regions
pub all_ranges : (P : Bounds → Type 0) (epoch : Epoch) (peers : List ℕ) (news : List (ℕ × Bounds)) → AllByRecursion P (ranges_of news)
    → AllByRecursion (λ s. P s.range) (map (new_region epoch peers) news)
all_ranges P epoch peers [] h = tt
all_ranges P epoch peers (z ∷ zs) h = (h.0, all_ranges P epoch peers zs h.1)

-- the new regions aren't merging
pub all_normal : (epoch : Epoch) (peers : List ℕ) (news : List (ℕ × Bounds)) → AllByRecursion (λ s. s.mode ≡ mode.Normal) (map (new_region epoch peers) news)
all_normal epoch peers [] = tt
all_normal epoch peers (z ∷ zs) = (refl, all_normal epoch peers zs)

-- what holds of the ids holds of the regions
pub all_ids : (P : ℕ → Type 0) (epoch : Epoch) (peers ids : List ℕ) (ranges : List Bounds) → AllByRecursion P ids
    → AllByRecursion (λ s. P s.region) (map (new_region epoch peers) (zip ids ranges))
all_ids P epoch peers [] ranges h = tt
all_ids P epoch peers (i ∷ ids) [] h = tt
all_ids P epoch peers (i ∷ ids) (x ∷ ranges) h = (h.0, all_ids P epoch peers ids ranges h.1)

-- ids each once give regions each once
pub each_id : (epoch : Epoch) (peers ids : List ℕ) (ranges : List Bounds) → EachOther ids → EachId (map (new_region epoch peers) (zip ids ranges))
each_id epoch peers [] ranges h = tt
each_id epoch peers (i ∷ ids) [] h = tt
each_id epoch peers (i ∷ ids) (x ∷ ranges) h = (all_ids (λ y. i ≡ y → ⊥) epoch peers ids ranges h.0, each_id epoch peers ids ranges h.1)

-- ranges that share no key give regions that share none
pub states_apart : (epoch : Epoch) (peers : List ℕ) (news : List (ℕ × Bounds)) → EachToLater AreApart (ranges_of news) → StatesApart (map (new_region epoch peers) news)
states_apart epoch peers [] h = tt
states_apart epoch peers (z ∷ zs) h = (all_ranges (AreApart z.1) epoch peers zs h.0, states_apart epoch peers zs h.1)

-- each is found by its id
pub find_each : (ss : List RegionState) → EachId ss → AllByRecursion (λ s. find (λ t. t.region == s.region) ss ≡ Some s) ss
find_each [] h = tt
find_each (s ∷ ss) h = (
  first (s.region == s.region) (eq-eqb s.region s.region refl),
  all_both (λ t. s.region ≡ t.region → ⊥) (λ t. find (λ x. x.region == t.region) ss ≡ Some t) (λ t. find (λ x. x.region == t.region) (s ∷ ss) ≡ Some t)
      (λ t ne e. further t (s.region == t.region) (ne_eqb s.region t.region ne) e) ss h.0 (find_each ss h.1),
)
  where
    first : (b : Bool) → b ≡ true → cond b (Some s) (find (λ x. x.region == s.region) ss) ≡ Some s
    first b e = ap (λ (z : Bool). cond z (Some s) (find (λ x. x.region == s.region) ss)) e

    further : (t : RegionState) (b : Bool) → b ≡ false → find (λ x. x.region == t.region) ss ≡ Some t → cond b (Some s) (find (λ x. x.region == t.region) ss) ≡ Some t
    further t b e h = ap (λ (z : Bool). cond z (Some s) (find (λ x. x.region == t.region) ss)) e ∙ h
