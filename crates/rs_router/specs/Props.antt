-- Two facts about options that have one proof at most.
use Rattle.std.specs.Prelude.{◌≡◌, Option, Some, None}
use mathlib.Core.Path.{refl, sym, ap, ◌∙◌, subst, path_j, sym_refl}
use mathlib.Core.Logic.{◌⊎◌, inl, inr}
use mathlib.Core.HLevel.{collapsible→set, prop→set, Unit-prop}
use mathlib.Core.Sum.{⊎_set}

module _ {A : Type 0} where
  abbrev is_none : Option A → Type 0
  is_none None = Unit {0}
  is_none (Some x) = ⊥

  abbrev to_none : (x : Option A) → is_none x → None ≡ x
  to_none None none = refl
  to_none (Some x) none = absurd none

  only : (x : Option A) (p : None ≡ x) → to_none x (subst is_none p tt) ≡ p
  only x p = path_j (λ (y : Option A) q. to_none y (subst is_none q tt) ≡ q) refl p

  one_none : (x : Option A) → (n m : is_none x) → n ≡ m
  one_none None n m = refl
  one_none (Some x) n m = absurd n

  sym_sym : {x y : Option A} (p : x ≡ y) → sym (sym p) ≡ p
  sym_sym p = path_j (λ (y : Option A) q. sym (sym q) ≡ q) (ap sym sym_refl ∙ sym_refl) p

  -- an option is none in one way
  pub none_prop : (x : Option A) → IsProp (x ≡ None)
  none_prop x p q =
      let same : sym p ≡ sym q = sym (only x (sym p)) ∙ ap (to_none x) (one_none x (subst is_none (sym p) tt) (subst is_none (sym q) tt)) ∙ only x (sym q) in
      sym (sym_sym p) ∙ ap sym same ∙ sym_sym q

retract_set : {A B : Type 0} (to : A → B) (from : B → A) → ((x : A) → from (to x) ≡ x) → IsSet B → IsSet A
retract_set to from back set = collapsible→set (λ x y p. sym (back x) ∙ ap from (ap to p) ∙ back y)
    (λ x y p q. ap (λ z. sym (back x) ∙ ap from z ∙ back y) (set (to x) (to y) (ap to p) (ap to q)))

-- an option of a set is a set
pub Option_set : {T : Type 0} → IsSet T → IsSet (Option T)
Option_set {T} set = retract_set {B = T ⊎ Unit {0}} (elim [ None ↦ inr tt | Some x ↦ inl x ]) (elim [ inl x ↦ Some x | inr _ ↦ None ]) (elim [ None ↦ refl | Some x ↦ refl ]) (⊎_set set (prop→set Unit-prop))
