-- Places that are kept by region.
use Rattle.std.proofs.Common.{◌≡◌, ℕ, ◌+◌, ◌-◌, ◌≤◌, refl, sym, ap, ◌∙◌, List, [], length, arith}
use Rattle.std.specs.Prelude.{Bool, true, false, Option, Some, None, ◌==◌, leb, if◌then◌else◌}
use Rattle.std.specs.Ordering.{nat_cmp, is_eq}
use Rattle.std.proofs.lemmas.Bool.{ne_eqb, eqb-true}
use Rattle.std.proofs.lemmas.Grind.{common_steps}
use Rattle.std.proofs.lemmas.Option.{slice_get_past}
use Rattle.rs_store.specs.Places.{in_run, kept_in, place_in}
use Rattle.rs_store.specs.declared.region_places.RegionPlaces.{RegionPlaces}

same_number : (a b : ℕ) → is_eq (nat_cmp a b) ≡ (a == b)
same_number a b = grind (arith, common_steps)

nothing : (b : Bool) → ◌≡◌ {A = Option ℕ} (if b then None else None) None
nothing true = refl
nothing false = refl

pub past_run : (first index : ℕ) (run : List ℕ) → first + length run ≤ index → in_run first run index ≡ None
past_run first index run h =
    ap (λ o. if leb first index then o else None) (slice_get_past run (index - first) (omega arith)) ∙ nothing (leb first index)

pub empty_run : (first index : ℕ) (run : List ℕ) → run ≡ [] → in_run first run index ≡ None
empty_run first index run h = ap (λ xs. in_run first xs index) h ∙ nothing (leb first index)

-- the places at hand are kept, and another region's are taken out
pub exchanged : (was is : ℕ) (last next : RegionPlaces) (before between after : ℕ → Option RegionPlaces) → (was ≡ is → ⊥) → place_in next ≡ kept_in (before is)
    → ((r : ℕ) → between r ≡ (if is_eq (nat_cmp is r) then None else before r))
    → ((r : ℕ) → after r ≡ (if is_eq (nat_cmp was r) then Some last else between r))
    → (r : ℕ) → (if is == r then place_in next else kept_in (after r)) ≡ (if was == r then place_in last else kept_in (before r))
exchanged was is last next before between after apart taken out put r = go (is == r) refl where
  rest : (b : Bool) → (was == r) ≡ b → (is == r) ≡ false → kept_in (after r) ≡ (if b then place_in last else kept_in (before r))
  rest true w i = ap kept_in (put r ∙ ap (λ b. if b then Some last else between r) (same_number was r ∙ w))
  rest false w i = ap kept_in (put r ∙ (ap (λ b. if b then Some last else between r) (same_number was r ∙ w)
      ∙ (out r ∙ ap (λ b. if b then None else before r) (same_number is r ∙ i))))

  go : (b : Bool) → (is == r) ≡ b → (if b then place_in next else kept_in (after r)) ≡ (if was == r then place_in last else kept_in (before r))
  go true e =
      let same : is ≡ r = eqb-true is r e in
      taken ∙ (ap (λ x. kept_in (before x)) same ∙ sym (ap (λ b. if b then place_in last else kept_in (before r)) (ne_eqb was r (λ p. apart (p ∙ sym same)))))
  go false e = rest (was == r) refl e
