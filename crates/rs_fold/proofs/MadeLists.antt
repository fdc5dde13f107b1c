-- What is kept of each of some ids, one id after the other.
use Rattle.std.proofs.Common.{◌≡◌, ◌∙◌, ap, ℕ, ◌+◌, ◌<◌, List, [], ◌∷◌, ◌++◌, length, get_or, take, append-nil}
use Rattle.std.specs.Prelude.{Option, Some, None}
use Rattle.std.specs.List.{filter_map}
use Rattle.std.proofs.lemmas.List.Elements.{filter_map-append}
use Rattle.rs_store.proofs.Rising.{get_or_any}
use Rattle.rs_store.proofs.Loops.{take_here}

module _ {X : Type 0} (p : ℕ → Option X) (ids : List ℕ) (i : ℕ) (there : i < length ids) where
  one_id : filter_map p (take (i + 1) ids) ≡ filter_map p (take i ids) ++ filter_map p (get_or ids i 0 ∷ [])
  one_id =
      ap (filter_map p) (take_here ids i (get_or ids i 0) there (get_or_any ids i 0 (get_or ids i 0) there))
      ∙ filter_map-append p (take i ids) (get_or ids i 0 ∷ [])

  -- nothing is kept of the next id
  pub none_more : p (get_or ids i 0) ≡ None → filter_map p (take (i + 1) ids) ≡ filter_map p (take i ids)
  none_more h = one_id ∙ (ap (λ (o : Option X). filter_map p (take i ids) ++ filter_map (λ (x : ℕ). o) (get_or ids i 0 ∷ [])) h ∙ append-nil (filter_map p (take i ids)))

  -- something is
  pub some_more : (x : X) → p (get_or ids i 0) ≡ Some x → filter_map p (take (i + 1) ids) ≡ filter_map p (take i ids) ++ x ∷ []
  some_more x h = one_id ∙ ap (λ (o : Option X). filter_map p (take i ids) ++ filter_map (λ (x : ℕ). o) (get_or ids i 0 ∷ [])) h
