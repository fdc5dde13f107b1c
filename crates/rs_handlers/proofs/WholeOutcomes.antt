-- The outcomes of all stores are the plan's outcome.
use Rattle.std.proofs.Common.{◌≡◌, refl, sym, ap, subst, ◌∙◌, ℕ, suc, List, [], ◌∷◌, map, length, slice_get, Option, Some, None, unwrap_or, get_or, arith}
use Rattle.std.specs.Option.{option_map}
use Rattle.std.proofs.lemmas.List.{length-map}
use Rattle.std.proofs.lemmas.Option.{slice_get-map, get_or_from_slice_get}
use Rattle.rs_entry.specs.declared.input.Input.{Input}
use Rattle.rs_entry.specs.declared.outcome.Outcome.{Outcome}
use Rattle.rs_entry.specs.declared.outcome.StoreOutcome.{StoreOutcome}
use Rattle.rs_history.specs.Outcomes.{outcome_of, store_outcome}
use Rattle.rs_handlers.specs.Stores.{AreOutcomes}

module _ {A B : Type 0} (f : A → B) where
  -- a list with the image of each element at its place
  all_mapped : (xs : List A) (ys : List B) → length ys ≡ length xs → ((i : ℕ) (y : B) → slice_get ys i ≡ Some y → option_map f (slice_get xs i) ≡ Some y) → ys ≡ map f xs
  all_mapped [] [] same each = refl
  all_mapped [] (y ∷ ys) same each = absurd (omega (arith, same))
  all_mapped (x ∷ xs) [] same each = absurd (omega (arith, same))
  all_mapped (x ∷ xs) (y ∷ ys) same each =
      let head : f x ≡ y = ap (λ o. unwrap_or o y) (each 0 y refl) in
      let rest : ys ≡ map f xs = all_mapped xs ys (omega (arith, same)) (λ i z is. each (suc i) z is) in
      ap (λ z. z ∷ ys) (sym head) ∙ ap (λ zs. f x ∷ zs) rest

pub whole_outcome : (input : Input) (rows : List StoreOutcome) (outcomes : List (Option StoreOutcome))
    → AreOutcomes input outcomes → length outcomes ≡ length input.stores → map Some rows ≡ outcomes
    → ◌≡◌ {A = Outcome} (record { stores = rows }) (outcome_of input)
unfolding outcome_of
whole_outcome input rows outcomes right sized is = ap (λ (l : List StoreOutcome). record { stores = l }) (all_mapped store_outcome input.stores rows same each) where
  same : length rows ≡ length input.stores
  same = sym (length-map rows Some) ∙ ap length is ∙ sized

  each : (i : ℕ) (y : StoreOutcome) → slice_get rows i ≡ Some y → option_map store_outcome (slice_get input.stores i) ≡ Some y
  each i y there =
      right i y (subst (λ l. get_or l i None ≡ Some y) is (get_or_from_slice_get (map Some rows) i (Some y) None (slice_get-map Some rows i ∙ ap (λ o. option_map Some o) there)))
