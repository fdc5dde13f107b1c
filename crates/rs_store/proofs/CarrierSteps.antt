-- Who stands before a merge of a source, region by region.
use Rattle.std.proofs.Common.{◌≡◌, ℕ, ◌+◌, ◌<◌, List, [], ◌∷◌, ◌++◌, length, get_or, take, cond, refl, sym, ap, ◌∙◌}
use Rattle.std.specs.Prelude.{Bool, true, false, Option, Some, None, ◌==◌, if◌then◌else◌}
use mathlib.Core.Path.{fun_ext}
use Rattle.std.proofs.lemmas.Bool.{eqb-true, eqb-false, eq-eqb, ne_eqb}
use Rattle.std.proofs.lemmas.List.Elements.{filter-append}
use Rattle.rs_entry.specs.declared.entry.Entry.{Entry}
use Rattle.rs_entry.specs.declared.input.Store.{Store}
use Rattle.rs_store.specs.Stores.{Applied, Merge, stands, carried_at, carried_next, first_some}
use Rattle.rs_store.specs.Carriers.{BySource, with_carrier, is_for, standing_for}
use Rattle.rs_store.proofs.Loops.{take_here}
use Rattle.rs_store.proofs.Rising.{get_or_any}

-- what is carried for a source is carried by those that stand before a merge of it
pub carried_by : (store : Store) (g : Applied) (ids : List ℕ) (source index : ℕ) → carried_next store g (standing_for store g ids source) source index ≡ carried_next store g ids source index
carried_by store g [] source index = refl
carried_by store g (t ∷ ts) source index = go (stands store g t) refl (carried_by store g ts source index) where
  with_merge : (m : Merge) (b : Bool) → (m.source == source) ≡ b → stands store g t ≡ Some m → carried_next store g (standing_for store g ts source) source index ≡ carried_next store g ts source index
      → carried_next store g (standing_for store g (t ∷ ts) source) source index ≡ carried_next store g (t ∷ ts) source index
  with_merge m true q e rest =
      let is : is_for source (stands store g t) ≡ true = ap (is_for source) e ∙ q in
      ap (λ (b : Bool). carried_next store g (cond b (t ∷ standing_for store g ts source) (standing_for store g ts source)) source index) is
      ∙ ap (first_some (carried_at source index (stands store g t))) rest
  with_merge m false q e rest =
      let is : is_for source (stands store g t) ≡ false = ap (is_for source) e ∙ q in
      let none : carried_at source index (stands store g t) ≡ None = ap (carried_at source index) e ∙ rw q refl in
      ap (λ (b : Bool). carried_next store g (cond b (t ∷ standing_for store g ts source) (standing_for store g ts source)) source index) is
      ∙ (rest ∙ sym (ap (λ (o : Option Entry). first_some o (carried_next store g ts source index)) none))

  go : (o : Option Merge) → stands store g t ≡ o → carried_next store g (standing_for store g ts source) source index ≡ carried_next store g ts source index
      → carried_next store g (standing_for store g (t ∷ ts) source) source index ≡ carried_next store g (t ∷ ts) source index
  go None e rest =
      let is : is_for source (stands store g t) ≡ false = ap (is_for source) e in
      let none : carried_at source index (stands store g t) ≡ None = ap (carried_at source index) e in
      ap (λ (b : Bool). carried_next store g (cond b (t ∷ standing_for store g ts source) (standing_for store g ts source)) source index) is
      ∙ (rest ∙ sym (ap (λ (o : Option Entry). first_some o (carried_next store g ts source index)) none))
  go (Some m) e rest = with_merge m (m.source == source) refl e rest

-- the same, where the regions are those that are kept
pub carried_for : (store : Store) (g : Applied) (ids standing : List ℕ) (f : BySource) (source index : ℕ) → standing ≡ f source → f ≡ standing_for store g ids
    → carried_next store g standing source index ≡ carried_next store g ids source index
carried_for store g ids standing f source index e h =
    ap (λ (xs : List ℕ). carried_next store g xs source index) (e ∙ ap (λ (k : BySource). k source) h) ∙ carried_by store g ids source index

nil_right : (xs : List ℕ) → xs ++ [] ≡ xs
nil_right [] = refl
nil_right (x ∷ xs) = ap (λ (ys : List ℕ). x ∷ ys) (nil_right xs)

-- one region more
more : (store : Store) (g : Applied) (ids : List ℕ) (i source : ℕ) (b : Bool) → i < length ids → is_for source (stands store g (get_or ids i 0)) ≡ b
    → standing_for store g (take (i + 1) ids) source ≡ standing_for store g (take i ids) source ++ cond b (get_or ids i 0 ∷ []) []
more store g ids i source b h e =
    ap (λ (xs : List ℕ). standing_for store g xs source) (take_here ids i (get_or ids i 0) h (get_or_any ids i 0 (get_or ids i 0) h))
    ∙ (filter-append (λ (t : ℕ). is_for source (stands store g t)) (take i ids) (get_or ids i 0 ∷ [])
    ∙ ap (λ (c : Bool). standing_for store g (take i ids) source ++ cond c (get_or ids i 0 ∷ []) []) e)

pub nobody_more : (store : Store) (g : Applied) (ids : List ℕ) (i : ℕ) → i < length ids → stands store g (get_or ids i 0) ≡ None → standing_for store g (take (i + 1) ids) ≡ standing_for store g (take i ids)
nobody_more store g ids i h none = fun_ext (λ source. more store g ids i source false h (ap (is_for source) none) ∙ nil_right (standing_for store g (take i ids) source))

pub one_more : (store : Store) (g : Applied) (ids : List ℕ) (i : ℕ) (m : Merge) → i < length ids → stands store g (get_or ids i 0) ≡ Some m
    → standing_for store g (take (i + 1) ids) ≡ with_carrier (standing_for store g (take i ids)) m.source (get_or ids i 0)
one_more store g ids i m h some = fun_ext (λ (q : ℕ). go q (q == m.source) refl) where
  go : (q : ℕ) (b : Bool) → (q == m.source) ≡ b → standing_for store g (take (i + 1) ids) q ≡ (if b then standing_for store g (take i ids) q ++ get_or ids i 0 ∷ [] else standing_for store g (take i ids) q)
  go q true e = more store g ids i q true h (ap (is_for q) some ∙ eq-eqb m.source q (sym (eqb-true q m.source e)))
  go q false e = more store g ids i q false h (ap (is_for q) some ∙ ne_eqb m.source q (λ k. eqb-false q m.source e (sym k))) ∙ nil_right (standing_for store g (take i ids) q)
