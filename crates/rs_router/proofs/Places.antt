-- A change of one place of a list.
use Rattle.std.proofs.Common.{◌≡◌, ◌≢◌, ℕ, ◌+◌, ◌<◌, ◌≤◌, List, [], ◌∷◌, ◌++◌, All, length, map, get_or, set, slice_index, refl, sym, ◌∙◌, ap, subst, ⊎_elim, arith, length-set, length-append, get_or-set_same, get_or-set_other}
use Rattle.std.proofs.lemmas.Bool.{cases_eq}
use Rattle.std.proofs.lemmas.List.{get_or_default, get_or_append_left}
use Rattle.std.proofs.Math.Seq.{map-set_same, get_or-append_seam}
use Rattle.std.proofs.lemmas.List.{get_or-map, length-map, map-append}
use Rattle.rs_router.specs.Desks.{Paired, ChangesAt}

module _ {A B : Type 0} (R : A → B → Type 0) where
  -- R at a place, where x and y are the elements there
  pub paired : (xs : List A) (ys : List B) (i : ℕ) (x : A) (y : B) → Paired R xs ys → i < length xs → x ≡ get_or xs i x → y ≡ get_or ys i y → R x y
  paired xs ys i x y all within at_x at_y = subst (λ v. R x v) (sym at_y) (subst (λ u. R u (get_or ys i y)) (sym at_x) (all.1 i x y within))

  pub paired_set : (xs : List A) (ys : List B) (i : ℕ) (x : A) (y : B) → Paired R xs ys → i < length xs → x ≡ get_or xs i x → R x y → Paired R xs (set ys i y)
  paired_set xs ys i x y all within at_x r = (
    length-set ys i y ∙ all.0,
    λ k u v less. ⊎_elim
        (λ same. subst (λ (w : B). R (get_or xs k u) w) (sym (ap (λ j. get_or (set ys i y) j v) same ∙ get_or-set_same ys i y v (omega (arith, all.0, within))))
        (subst (λ (w : A). R w y) (at_x ∙ get_or_default xs i x u within ∙ ap (λ j. get_or xs j u) (sym same)) r))
        (λ apart. subst (λ (w : B). R (get_or xs k u) w) (sym (get_or-set_other ys i k y v apart)) (all.1 k u v less))
        (cases_eq k i),
  )

  pub paired_push : (xs : List A) (ys : List B) (x : A) (y : B) → Paired R xs ys → R x y → Paired R (xs ++ x ∷ []) (ys ++ y ∷ [])
  paired_push xs ys x y all r =
      let long : length (xs ++ x ∷ []) ≡ length xs + 1 = length-append xs (x ∷ []) in (
        length-append ys (y ∷ []) ∙ ap (λ n. n + 1) all.0 ∙ sym long,
        λ k u v within. ⊎_elim
            (λ last.
            let x_is : get_or (xs ++ x ∷ []) k u ≡ x = ap (λ j. get_or (xs ++ x ∷ []) j u) last ∙ get_or-append_seam xs x [] u in
            let y_is : get_or (ys ++ y ∷ []) k v ≡ y = ap (λ j. get_or (ys ++ y ∷ []) j v) (last ∙ sym all.0) ∙ get_or-append_seam ys y [] v in
            subst (λ (a : A). R a (get_or (ys ++ y ∷ []) k v)) (sym x_is) (subst (λ (b : B). R x b) (sym y_is) r))
            (λ before.
            let less : k < length xs = omega (arith, before, within, long) in
            subst (λ (a : A). R a (get_or (ys ++ y ∷ []) k v)) (sym (get_or_append_left xs (x ∷ []) u k less))
            (subst (λ (b : B). R (get_or xs k u) b) (sym (get_or_append_left ys (y ∷ []) v k (omega (arith, less, all.0)))) (all.1 k u v less)))
            (cases_eq k (length xs)),
      )

  first_of : (xs : List A) → 0 < length xs → A
  first_of [] none = absurd (omega arith)
  first_of (x ∷ xs) some = x

  -- what holds of each x passes to each y
  pub passes_on : (P : A → Type 0) (Q : B → Type 0) → ((x : A) (y : B) → R x y → P x → Q y) → (xs : List A) (ys : List B) → Paired R xs ys → All P xs → All Q ys
  passes_on P Q on xs ys all ps k y within =
      let less : k < length xs = omega (arith, within, all.0) in
      let x = first_of xs (omega arith) in
      on (get_or xs k x) (get_or ys k y) (all.1 k x y less) (ps k x less)

module _ {A : Type 0} where
  -- the element there
  pub read : (P : A → Type 0) (xs : List A) (i : ℕ) (x : A) → All P xs → i < length xs → x ≡ get_or xs i x → P x
  read P xs i x all within at_x = subst P (sym at_x) (all i x within)

  pub map_set : {B : Type 0} (f : A → B) (xs : List A) (i : ℕ) (x y : A) → i < length xs → x ≡ get_or xs i x → f y ≡ f x → map f (set xs i y) ≡ map f xs
  map_set f xs i x y within at_x same = map-set_same f xs i y x (same ∙ ap f at_x)

  pub at_map : (f : A → ℕ) (xs : List A) (i : ℕ) (x : A) → i < length xs → x ≡ get_or xs i x → slice_index (map f xs) i ≡ f x
  at_map f xs i x within at_x = get_or-map f xs i x 0 within ∙ sym (ap f at_x)

  pub changes : (R Q : A → A → Type 0) (i : ℕ) (xs ys : List A) → ((x y : A) → R x y → Q x y) → ChangesAt i R xs ys → ChangesAt i Q xs ys
  changes R Q i xs ys more c = (c.0, c.1, c.2, c.3, c.4, more c.0 c.1 c.5)

module _ {A : Type 0} (R : A → A → Type 0) where
  -- the first n elements changed as R says, and the others stayed
  abbrev pub SomeChanged : ℕ → List A → List A → Type 0
  SomeChanged n xs ys = (length ys ≡ length xs) × ((i : ℕ) (d e : A) → i < length xs → (i < n → R (get_or xs i d) (get_or ys i e)) × (n ≤ i → get_or ys i e ≡ get_or xs i e))

  pub none_changed : (xs : List A) → SomeChanged 0 xs xs
  none_changed xs = (refl, λ i d e within. (λ less. absurd (omega arith), λ more. refl))

  pub one_more : (n : ℕ) (xs ys zs : List A) → SomeChanged n xs ys → ChangesAt n R ys zs → SomeChanged (n + 1) xs zs
  one_more n xs ys zs some c =
      let y : A = c.1 in
      let is_set : zs ≡ set ys n y = c.4 in
      let here : (i : ℕ) (d e : A) → i < length xs → i ≡ n → R (get_or xs i d) (get_or zs i e) = λ i d e within same.
      let x_there : c.0 ≡ get_or xs n c.0 = c.3 ∙ (some.1 n d c.0 (subst (λ (j : ℕ). j < length xs) same within)).1 (omega arith) in
      let x_is : get_or xs i d ≡ c.0 = ap (λ j. get_or xs j d) same ∙ get_or_default xs n d c.0 (subst (λ (j : ℕ). j < length xs) same within) ∙ sym x_there in
      let y_is : get_or zs i e ≡ y = ap (λ j. get_or zs j e) same ∙ ap (λ l. get_or l n e) is_set ∙ get_or-set_same ys n y e c.2 in
      subst (λ (u : A). R u (get_or zs i e)) (sym x_is) (subst (λ (v : A). R c.0 v) (sym y_is) c.5) in
      let there : (i : ℕ) (e : A) → i ≢ n → get_or zs i e ≡ get_or ys i e = λ i e apart. ap (λ l. get_or l i e) is_set ∙ get_or-set_other ys n i y e apart in (
        ap length is_set ∙ length-set ys n y ∙ some.0,
        λ i d e within. (
          λ less. ⊎_elim (λ same. here i d e within same) (λ apart. subst (λ (v : A). R (get_or xs i d) v) (sym (there i e apart)) ((some.1 i d e within).0 (omega (arith, apart, less)))) (cases_eq i n),
          λ more. there i e (λ same. absurd (omega (arith, same, more))) ∙ (some.1 i d e within).1 (omega arith),
        ),
      )

  pub all_changed : (n : ℕ) (xs ys : List A) → length xs ≡ n → SomeChanged n xs ys → Paired R xs ys
  all_changed n xs ys size some = (some.0, λ i x y within. (some.1 i x y within).0 (omega (arith, size, within)))

pub addressed_push : {A : Type 0} (f : A → ℕ) (xs : List A) (x : A) → ((i : ℕ) → i < length xs → slice_index (map f xs) i ≡ i) → f x ≡ length xs → (i : ℕ) → i < length (xs ++ x ∷ []) → slice_index (map f (xs ++ x ∷ [])) i ≡ i
addressed_push f xs x all here i within =
    let size : length (map f xs) ≡ length xs = length-map xs f in
    ap (λ l. slice_index l i) (map-append f xs (x ∷ [])) ∙ ⊎_elim
    (λ last. ap (slice_index (map f xs ++ f x ∷ [])) (last ∙ sym size) ∙ get_or-append_seam (map f xs) (f x) [] 0 ∙ here ∙ sym last)
    (λ before. let less : i < length xs = omega (arith, before, within, length-append xs (x ∷ [])) in get_or_append_left (map f xs) (f x ∷ []) 0 i (omega (arith, less, size)) ∙ all i less)
    (cases_eq i (length xs))
